use Rattle.std.proofs.Common.{◌≡◌, ◌∙◌, sym, ap, subst, arith, length, get_or, false, []}
use Rattle.jl_model.specs.declared.ty.Ty.TheVariants as W
use Rattle.jl_model.specs.declared.ty.Bound.{Bound}
use Rattle.jl_model.specs.Ancestors.{table_of}
use Rattle.jl_model.specs.Rows.{low, kind}
use Rattle.jl_model.specs.Subtype.{put, at}
use Rattle.jl_model.specs.Signature.{top, is_diagonal}
use Rattle.jl_model.proofs.PutLemmas.{put-closed}
use Rattle.jl_types.specs.Ground.{IsGround}
use Rattle.jl_match.specs.KeptRow.{row_of}
use Rattle.jl_match.proofs.TestLemmas.{ground_at, get-same}
use Rattle.jl_match.proofs.ServeLemmas.{plain_ground, within_same, low_is}
use Rattle.jl_match.proofs.serve.is_between.Goals as goal

pub is_within-requires-clause-low : goal.is_within-requires-clause-low
is_within-requires-clause-low c =
    let s = c.args.signature.now in
    let bs = c.as_slice-bounds.result.now in
    let v = c.args.variable in
    let l = ap length c.as_slice-bounds.ensures in
    let e = ap (λ (z : Bound). z.low) (sym c.index-bounds-variable.is) ∙ low_is s bs v c.index-bounds-variable.result c.as_slice-bounds.ensures (omega (arith, l, c.requires.variable)) c.index-bounds-variable.is in
    subst (IsGround c.args.table.now) (sym e) (plain_ground c.args.table.now (low s v) c.requires.low)

pub is_within-requires-clause-high : goal.is_within-requires-clause-high
is_within-requires-clause-high c =
    let f = at c.args.values.now in
    subst (IsGround c.args.table.now) (sym (c.in_ok-high-2.ensures ∙ ap (put f) c.in_ok-high.ensures)) c.requires.high

pub is_within-requires-clause-value : goal.is_within-requires-clause-value
is_within-requires-clause-value c =
    ground_at c.args.table.now c.args.values.now c.args.variable c.index-values-variable.result c.requires.values (omega (arith, c.requires.long, c.requires.variable)) c.index-values-variable.is

pub returns : goal.returns
returns c =
    let s = c.args.signature.now in
    let v = c.args.variable in
    let bs = c.as_slice-bounds.result.now in
    let n = table_of c.args.table.now in
    let r = row_of [] c.args.chosen.now in
    let f = at c.args.values.now in
    let m : length bs ≡ length s.vars = ap length c.as_slice-bounds.ensures in
    within_same n c.is_within.result (get_or bs v c.index-bounds-variable.result).low (put f (low s v)) c.in_ok-high-2.high (put f (top s r v)) (get_or c.args.diagonals.now v false) (is_diagonal (kind s v)) c.index-values-variable.result (f v)
    (ap (λ (z : Bound). z.low) (sym c.index-bounds-variable.is) ∙ low_is s bs v c.index-bounds-variable.result c.as_slice-bounds.ensures (omega (arith, m, c.requires.variable)) c.index-bounds-variable.is
    ∙ sym (put-closed f (low s v) c.requires.low.closed))
    (c.in_ok-high-2.ensures ∙ ap (put f) c.in_ok-high.ensures) (c.requires.diagonals.kinds v c.requires.variable)
    (get-same c.args.values.now v W.Any c.index-values-variable.result (omega (arith, c.requires.long, c.requires.variable)) c.index-values-variable.is) c.is_within.ensures
