use Rattle.std.proofs.Common.{◌≡◌, length}
use Rattle.jl_judge.specs.Kept.{AreAnswers}
use Rattle.jl_judge.proofs.kept.Kept.ask.Given as goal

abbrev pub invariant-loop-number : goal.invariant-loop-number
invariant-loop-number g l = AreAnswers (g.J.Judge.tests l.judge).wide l.wide.items × (l.number ≡ length l.wide.items)
