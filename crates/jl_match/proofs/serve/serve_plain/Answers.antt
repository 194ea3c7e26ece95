use Rattle.std.proofs.Common.{◌≡◌, refl, subst, arith, true, inl, inr}
use Rattle.jl_model.specs.Ancestors.{table_of}
use Rattle.jl_model.specs.Subtype.{opaque, at}
use Rattle.jl_match.specs.KeptRow.{row_of}
use Rattle.jl_search.specs.Serving.{ServesAt}
use Rattle.jl_search.proofs.ServingLemmas.{serves_at, serves_all}
use Rattle.jl_match.proofs.RowLemmas.{below_or, low_of}
use Rattle.jl_match.proofs.serve.serve_plain.Goals as goal

pub returns-then-not-branch : goal.returns-then-not-branch
returns-then-not-branch c = (
  (λ h. cc),
  (λ q.
      let k = serves_at (table_of c.args.table.now) opaque c.args.signature.now (row_of c.args.parts.now c.args.chosen.now) (at c.args.values.now) q c.loop-variable.variable in
      let r : c.in_ok-serves_one.field-0 ≡ true = c.in_ok-serves_one.ensures.1 k in cc),
)

pub loop-variable-preserved : goal.loop-variable-preserved
loop-variable-preserved c v l = elim (below_or v c.loop-variable.variable) [
  | inl h ↦ c.loop-variable.invariant v h
  | inr h ↦
      let e : c.loop-variable.variable ≡ v = omega (arith, l, h) in
      subst (ServesAt (table_of c.args.table.now) opaque c.args.signature.now (row_of c.args.parts.now c.args.chosen.now) (at c.args.values.now)) e (c.in_ok-serves_one.ensures.0 c.if-not-branch.false)
]

pub returns : goal.returns
returns c =
    let s = c.args.signature.now in
    let r = row_of c.args.parts.now c.args.chosen.now in (
      (λ h. serves_all (table_of c.args.table.now) opaque s r (at c.args.values.now) (low_of c.args.table.now s r c.requires.row)
          (λ v l. c.loop-variable.invariant v (omega (arith, l, c.requires.diagonals.long, c.loop-variable-test.false)))),
      (λ q. refl),
    )
