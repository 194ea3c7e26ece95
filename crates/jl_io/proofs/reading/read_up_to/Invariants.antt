-- What was read so far is what the source gave, and no more than the limit, without a fault.
use Rattle.std.proofs.Common.{◌≡◌, ◌≤◌, ◌-◌, length}
use Rattle.jl_io.specs.Moved.{Gives}
use Rattle.jl_io.proofs.reading.read_up_to.Given as goal

abbrev pub invariant-loop-piece : goal.invariant-loop-piece
invariant-loop-piece g l =
    (g.S.Source.faults l.source ≡ g.S.Source.faults l.fn.source)
    × (length l.bytes.items ≤ l.most)
    × Gives (g.S.Source.left l.fn.source) l.bytes.items (g.S.Source.left l.source)

abbrev pub decreases-loop-piece : goal.decreases-loop-piece
decreases-loop-piece g l = l.most - length l.bytes.items
