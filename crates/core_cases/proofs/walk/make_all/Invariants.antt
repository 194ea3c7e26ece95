use Rattle.std.proofs.Common.{◌≡◌}
use Rattle.core_cases.proofs.walk.make_all.Given as goal

abbrev pub invariant-loop-line : goal.invariant-loop-line
invariant-loop-line l = l.ready ≡ l.core.program
