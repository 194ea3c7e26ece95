use Rattle.std.proofs.Common.{◌≤◌, drop, length}
use Rattle.jl_replay.proofs.EndTable.{AreLastEnds}
use Rattle.jl_replay.proofs.ends.find_ends.Given as goal

-- the ends among the entries that were passed
abbrev pub invariant-loop-n : goal.invariant-loop-n
invariant-loop-n l = (l.n ≤ length l.entries) × AreLastEnds l.entries (drop l.n l.entries) l.ends.items

abbrev pub decreases-loop-n : goal.decreases-loop-n
decreases-loop-n l = l.n
