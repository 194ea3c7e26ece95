use Rattle.std.proofs.Common.{◌≡◌, true, false, refl}
use Rattle.jl_model.specs.declared.ty.Bound.{Bound}
use Rattle.jl_model.specs.Ancestors.{table_of}
use Rattle.jl_model.specs.Subtype.{opaque, Below}
use Rattle.jl_sig.proofs.SearchLemmas.{some_at, some_later}
use Rattle.jl_sig.proofs.FormSteps.{ground_at}
use Rattle.jl_sig.proofs.forms.have_crossed.Goals as goal

pub ground_sub-requires-clause-a_ground : goal.ground_sub-requires-clause-a_ground
ground_sub-requires-clause-a_ground c = (ground_at c.args.table.now c.args.bounds.now c.loop-bound.bound-index c.bound-item.result c.requires c.loop-bound-test.true c.bound-item.is).0

pub ground_sub-requires-clause-b_ground : goal.ground_sub-requires-clause-b_ground
ground_sub-requires-clause-b_ground c = (ground_at c.args.table.now c.args.bounds.now c.loop-bound.bound-index c.bound-item.result c.requires c.loop-bound-test.true c.bound-item.is).1

pub returns-then-not-ground_sub : goal.returns-then-not-ground_sub
returns-then-not-ground_sub c = (
  (λ h.
      some_at (λ (b : Bound). Below (table_of c.args.table.now) opaque b.low b.high → ⊥) c.args.bounds.now c.loop-bound.bound-index c.bound-item.result c.loop-bound-test.true c.bound-item.is
      (λ s.
      let t : c.ground_sub.result ≡ true = c.ground_sub.ensures.1 s in
      let f : c.ground_sub.result ≡ false = c.if-not-ground_sub.true in
      cc)),
  (λ h. refl),
)

pub loop-bound-preserved : goal.loop-bound-preserved
loop-bound-preserved c = λ h.
    some_later (λ (b : Bound). Below (table_of c.args.table.now) opaque b.low b.high → ⊥) c.args.bounds.now c.loop-bound.bound-index c.bound-item.result c.loop-bound-test.true c.bound-item.is
    (λ n. n (c.ground_sub.ensures.0 c.if-not-ground_sub.false)) (c.loop-bound.invariant h)
