use Rattle.std.proofs.Common.{◌≡◌}
use Rattle.core_cases.proofs.random.random.Given as goal

abbrev pub invariant-loop : goal.invariant-loop
invariant-loop l = l.ready ≡ l.core.program

abbrev pub invariant-loop-2 : goal.invariant-loop-2
invariant-loop-2 l = l.ready ≡ l.core.program
