use Rattle.std.proofs.Common.{◌≡◌}
use Rattle.core_cases.proofs.cases.answer_from.Given as goal

abbrev pub invariant-loop-i : goal.invariant-loop-i
invariant-loop-i l = l.ready ≡ l.core.program
