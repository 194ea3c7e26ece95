use Rattle.std.proofs.Common.{◌≡◌}
use Rattle.core_cases.proofs.walk.search.Given as goal

abbrev pub invariant-loop : goal.invariant-loop
invariant-loop l = l.ready ≡ l.core.program
