use Rattle.std.proofs.Common.{◌≡◌, true, false, refl}
use Rattle.jl_model.specs.Ancestors.{table_of}
use Rattle.jl_model.specs.Refusals.{Given, Between}
use Rattle.jl_sig.specs.Forms.{declared_bound}
use Rattle.jl_sig.proofs.FormSteps.{given_some, given_later}
use Rattle.jl_sig.proofs.forms.have_outside.Goals as goal

pub returns-then-not-is_between : goal.returns-then-not-is_between
returns-then-not-is_between c =
    let ds = c.args.table.now in (
      (λ h.
          given_some ds (λ (a : Given). Between (table_of ds) (declared_bound ds a) a.ty → ⊥) c.args.arguments.now c.loop-argument.argument-index c.argument-item.result c.loop-argument-test.true c.argument-item.is
          (λ s.
          let t : c.is_between.result ≡ true = c.is_between.ensures.1 s in
          let f : c.is_between.result ≡ false = c.if-not-is_between.true in
          cc)),
      (λ h. refl),
    )

pub loop-argument-preserved : goal.loop-argument-preserved
loop-argument-preserved c = λ h.
    let ds = c.args.table.now in
    given_later ds (λ (a : Given). Between (table_of ds) (declared_bound ds a) a.ty → ⊥) c.args.arguments.now c.loop-argument.argument-index c.argument-item.result c.loop-argument-test.true c.argument-item.is
    (λ n. n (c.is_between.ensures.0 c.if-not-is_between.false)) (c.loop-argument.invariant h)
