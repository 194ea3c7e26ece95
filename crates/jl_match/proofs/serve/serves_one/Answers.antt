use Rattle.std.proofs.Common.{◌≡◌, ◌∙◌, sym, ap, refl, subst, arith, length, get_or, false}
use Rattle.jl_model.specs.declared.ty.Ty.TheVariants as W
use Rattle.jl_model.specs.declared.ty.Bound.{Bound}
use Rattle.jl_model.specs.Ancestors.{table_of}
use Rattle.jl_model.specs.Rows.{low, kind, Occurs, standing}
use Rattle.jl_model.specs.Subtype.{opaque, put, at}
use Rattle.jl_model.specs.Signature.{top, is_diagonal}
use Rattle.jl_types.specs.Ground.{IsGround}
use Rattle.jl_match.specs.KeptRow.{row_of}
use Rattle.jl_search.specs.Serving.{Within}
use Rattle.jl_search.proofs.AbsentLemmas.{absent, present}
use Rattle.jl_match.proofs.TestLemmas.{ground_at, get-same}
use Rattle.jl_match.proofs.ServeLemmas.{plain_top, occurs_stands, low_same, top_same, within_same, at_present, low_is}
use Rattle.jl_match.proofs.TopLemmas.{bare_ground}
use Rattle.jl_match.proofs.serve.serves_one.Goals as goal

pub returns-then-all_lack : goal.returns-then-all_lack
returns-then-all_lack c =
    let m = length c.as_slice-bounds.result.now in
    let r = row_of c.args.parts.now c.args.chosen.now in
    ((λ h o. absurd (absent c.args.signature.now c.args.variable m c.args.parts.now (ap length c.as_slice-bounds.ensures) (sym c.all_lack.ensures ∙ c.if-all_lack.true) (occurs_stands c.args.table.now c.args.signature.now r c.requires.row c.requires.plain c.args.variable o))), (λ q. refl))

pub is_within-requires-clause-value : goal.is_within-requires-clause-value
is_within-requires-clause-value c =
    ground_at c.args.table.now c.args.values.now c.args.variable c.index-values-variable.result c.requires.values (omega (arith, c.requires.long, c.requires.variable)) c.index-values-variable.is

pub returns : goal.returns
returns c =
    let s = c.args.signature.now in
    let v = c.args.variable in
    let bs = c.as_slice-bounds.result.now in
    let n = table_of c.args.table.now in
    let r = row_of c.args.parts.now c.args.chosen.now in
    let f = at c.args.values.now in
    let m : length bs ≡ length s.vars = ap length c.as_slice-bounds.ensures in
    let o : Occurs s v c.args.parts.now = standing v c.args.parts.now (present s v (length bs) c.args.parts.now m (sym c.all_lack.ensures ∙ c.if-all_lack.false)) in
    at_present c.is_within.result (Occurs s v c.args.parts.now) (Within n opaque (put f (low s v)) (put f (top s r v)) (is_diagonal (kind s v)) (f v)) o
    (within_same n c.is_within.result (get_or bs v c.index-bounds-variable.result).low (put f (low s v)) c.in_ok-high.high (put f (top s r v)) (get_or c.args.diagonals.now v false) (is_diagonal (kind s v)) c.index-values-variable.result (f v)
    (ap (λ (z : Bound). z.low) (sym c.index-bounds-variable.is) ∙ low_is s bs v c.index-bounds-variable.result c.as_slice-bounds.ensures (omega (arith, m, c.requires.variable)) c.index-bounds-variable.is
    ∙ low_same c.args.table.now s r c.requires.row c.requires.plain v c.requires.variable f)
    (c.in_ok-high.ensures ∙ top_same c.args.table.now s r c.requires.row c.requires.plain v c.requires.variable f) (c.requires.diagonals.kinds v c.requires.variable)
    (get-same c.args.values.now v W.Any c.index-values-variable.result (omega (arith, c.requires.long, c.requires.variable)) c.index-values-variable.is) c.is_within.ensures)

pub is_within-requires-clause-high : goal.is_within-requires-clause-high
is_within-requires-clause-high c =
    let s = c.args.signature.now in
    let v = c.args.variable in
    let r = row_of c.args.parts.now c.args.chosen.now in
    subst (IsGround c.args.table.now) (sym c.in_ok-high.ensures) (bare_ground c.args.table.now s r v c.args.values.now c.requires.values (plain_top c.args.table.now s r c.requires.row c.requires.plain v c.requires.variable) (c.requires.row.top v c.requires.variable))
