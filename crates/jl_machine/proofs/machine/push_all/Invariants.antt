use Rattle.std.proofs.Common.{◌≡◌, ◌++◌, take}
use Rattle.jl_frames.specs.Held.{with_open}
use Rattle.jl_machine.proofs.machine.push_all.Given as goal

abbrev pub invariant-loop-value : goal.invariant-loop-value
invariant-loop-value l = l.frames ≡ with_open l.initial.frames (l.initial.frames.open_values ++ take l.value-index l.values)
