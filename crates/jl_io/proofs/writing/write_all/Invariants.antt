-- What was done so far was taken without a fault, and at the start the sink is as it was.
use Rattle.std.proofs.Common.{◌≡◌, ◌≤◌, ◌-◌, length, take}
use Rattle.jl_io.specs.Moved.{Takes}
use Rattle.jl_io.proofs.writing.write_all.Given as goal

abbrev pub invariant-loop-done : goal.invariant-loop-done
invariant-loop-done g l =
    (g.K.Sink.faults l.sink ≡ g.K.Sink.faults l.fn.sink)
    × (l.done ≤ length l.bytes)
    × Takes (g.K.Sink.written l.fn.sink) (take l.done l.bytes) (g.K.Sink.written l.sink)
    × (l.done ≡ 0 → l.sink ≡ l.fn.sink)

abbrev pub decreases-loop-done : goal.decreases-loop-done
decreases-loop-done g l = length l.bytes - l.done
