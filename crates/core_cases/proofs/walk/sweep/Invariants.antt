use Rattle.std.proofs.Common.{◌≡◌}
use Rattle.core_cases.proofs.walk.sweep.Given as goal

abbrev pub invariant-loop-key : goal.invariant-loop-key
invariant-loop-key l = l.ready ≡ l.core.program

abbrev pub invariant-loop-world : goal.invariant-loop-world
invariant-loop-world l = l.ready ≡ l.core.program
