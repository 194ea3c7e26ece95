use Rattle.std.proofs.Common.{◌≡◌, ◌∙◌, sym, ap, ap₂, subst, ℕ, [], drop, length}
use Rattle.std.proofs.lemmas.List.{drop_all}
use Rattle.jl_model.specs.Ancestors.{table_of}
use Rattle.jl_model.specs.Rows.{vars_in}
use Rattle.jl_model.specs.Subtype.{opaque}
use Rattle.jl_model.specs.Found.{found}
use Rattle.jl_model.specs.Signature.{Row}
use Rattle.jl_match.specs.KeptRow.{row_of, IsKeptRow, Fits}
use Rattle.jl_match.specs.SigRows.{kept_row}
use Rattle.jl_match.proofs.AppliesLemmas.{NoneFits, one_more, both_ways, kept-at, applicable, not_applicable}
use Rattle.jl_match.proofs.signature.some_row_applies.Goals as goal

pub row_applies-requires-clause-chosen : goal.row_applies-requires-clause-chosen
row_applies-requires-clause-chosen c =
    ap length c.as_slice-in-loop-row.ensures ∙ (kept-at c.args.table.now c.args.signature.now c.args.rows.now c.loop-row.row-index c.row-item.result c.requires.rows c.loop-row-test.true c.row-item.is).0

pub row_applies-requires-clause-row : goal.row_applies-requires-clause-row
row_applies-requires-clause-row c =
    let e = ap₂ row_of c.as_slice.ensures c.as_slice-in-loop-row.ensures in
    subst (IsKeptRow c.args.table.now c.args.signature.now) (sym e) (kept-at c.args.table.now c.args.signature.now c.args.rows.now c.loop-row.row-index c.row-item.result c.requires.rows c.loop-row-test.true c.row-item.is).1

pub returns-then-branch-clause-sound : goal.returns-then-branch-clause-sound
returns-then-branch-clause-sound c holds s rows =
    let n = table_of c.args.table.now in
    let t = c.args.signature.now in
    let ts = c.args.types.now in
    let e = ap₂ row_of c.as_slice.ensures c.as_slice-in-loop-row.ensures in
    let h = subst (λ (r : Row). Fits n t r ts (found n opaque t r ts)) e (c.in_ok-row_applies.ensures.sound c.if-branch.true) in
    let p = subst (λ (r : Row). (v : ℕ) → vars_in (found n opaque t r ts v) ≡ []) e (c.in_ok-row_applies.ensures.closed c.if-branch.true) in
    applicable c.args.table.now c.valid.ensures s t c.args.rows.now rows ts c.loop-row.row-index c.row-item.result c.loop-row-test.true c.row-item.is (found n opaque t (kept_row c.row-item.result) ts) h p

pub loop-row-preserved : goal.loop-row-preserved
loop-row-preserved c h =
    let n = table_of c.args.table.now in
    let t = c.args.signature.now in
    let e = ap₂ row_of c.as_slice.ensures c.as_slice-in-loop-row.ensures in
    c.loop-row.invariant
    (one_more n t c.args.types.now c.args.rows.now c.loop-row.row-index c.row-item.result c.loop-row-test.true c.row-item.is
    (λ f g. both_ways (c.in_ok-row_applies.ensures.complete f (subst (λ (r : Row). Fits n t r c.args.types.now f) (sym e) g)) c.if-branch.false) h)

pub returns-clause-complete : goal.returns-clause-complete
returns-clause-complete c s rows a =
    let n = table_of c.args.table.now in
    let e : drop c.loop-row.row-index c.args.rows.now ≡ [] = drop_all c.loop-row.row-index c.args.rows.now c.loop-row-test.false in
    let none : NoneFits n c.args.signature.now c.args.types.now c.args.rows.now = c.loop-row.invariant (subst (NoneFits n c.args.signature.now c.args.types.now) (sym e) tt) in
    absurd (not_applicable c.args.table.now c.valid.ensures s c.args.signature.now c.args.rows.now rows c.args.types.now none a)
