use Rattle.std.proofs.Common.{◌≡◌}
use Rattle.jl_machine.specs.Steps.{MachineFits, fuel_of, turns_of}
use Rattle.jl_runner.proofs.turns.run_turns.Given as goal

abbrev pub invariant-turns : goal.invariant-turns
invariant-turns g l = record {
  fits : MachineFits l.ready l.fuel (g.D.Dispatcher.knows l.with) l.machine;
  fuel : fuel_of l.machine ≡ l.fuel;
}

abbrev pub decreases-turns : goal.decreases-turns
decreases-turns g l = turns_of l.ready l.machine
