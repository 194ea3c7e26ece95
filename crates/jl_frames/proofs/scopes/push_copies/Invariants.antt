use Rattle.std.proofs.Common.{◌≡◌, ◌≤◌, ◌+◌, ◌++◌, take, drop, length}
use Rattle.jl_frames.proofs.scopes.push_copies.Given as goal

abbrev pub invariant-loop-i : goal.invariant-loop-i
invariant-loop-i l = (l.slots.items ≡ l.initial.slots.items ++ take l.i (drop l.base l.initial.slots.items)) × (length l.initial.slots.items ≤ length l.slots.items) × (l.base + l.count ≤ length l.initial.slots.items)
