use Rattle.std.proofs.Common.{ℕ, sym, subst, ◌∙◌}
use Rattle.jl_machine.specs.Steps.{MachineFits}
use Rattle.jl_runner.proofs.turns.run_turns.Goals as goal

pub step-requires : goal.step-requires
step-requires g c =
    subst (λ (n : ℕ). MachineFits c.args.ready.now n (g.D.Dispatcher.knows c.turns.with) c.turns.machine) (sym c.turns.invariant.fuel) c.turns.invariant.fits

pub turns-smaller : goal.turns-smaller
turns-smaller g c = rw c.in-Again.is at c.in_ok-step.ensures.turn

pub turns-preserved : goal.turns-preserved
turns-preserved g c = record {
  fits = subst (λ (n : ℕ). MachineFits c.args.ready.now n (g.D.Dispatcher.knows c.step.new.with) c.step.new.self) (c.in_ok-step.ensures.fuel ∙ c.turns.invariant.fuel) c.in_ok-step.ensures.fits;
  fuel = c.in_ok-step.ensures.fuel ∙ c.turns.invariant.fuel;
}
