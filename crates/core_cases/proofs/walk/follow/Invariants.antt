use Rattle.std.proofs.Common.{◌≡◌}
use Rattle.core_cases.proofs.walk.follow.Given as goal

abbrev pub invariant-loop-place : goal.invariant-loop-place
invariant-loop-place l = l.ready ≡ l.core.program
