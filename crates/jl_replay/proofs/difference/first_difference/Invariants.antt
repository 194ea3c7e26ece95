use Rattle.std.proofs.Common.{◌≡◌, ◌≤◌, length}
use Rattle.jl_replay.specs.Following.{AreEnds, AreFollowed, AreJudged}
use Rattle.jl_replay.proofs.difference.first_difference.Given as goal

abbrev pub invariant-loop-n : goal.invariant-loop-n
invariant-loop-n g l = AreJudged l.ready l.entries × AreEnds l.entries l.ends.items × AreFollowed l.ready l.entries l.runs × (length l.runs.led.past.1 ≡ l.n) × (l.n ≤ length l.entries)
