use Rattle.std.proofs.Common.{List}
use Rattle.jl_calculus.specs.declared.history.Change.{Change}
use Rattle.jl_causes.specs.Stands.{AreStanding}
use Rattle.jl_causes.proofs.standing.Standing.learn_steps.Given as goal

abbrev pub invariant-loop-step : goal.invariant-loop-step
invariant-loop-step l = (cs : List Change) → AreStanding l.ready cs l.initial.self → AreStanding l.ready cs l.self
