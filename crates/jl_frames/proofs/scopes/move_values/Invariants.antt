use Rattle.std.proofs.Common.{◌≡◌, ◌≤◌, ◌+◌, ◌++◌, take, drop, reverse, length}
use Rattle.jl_frames.proofs.scopes.move_values.Given as goal

abbrev pub invariant-loop-place : goal.invariant-loop-place
invariant-loop-place l =
    (l.slots.items ≡ l.initial.slots.items ++ reverse (drop (length l.values.items) l.initial.values.items))
    × (l.values.items ≡ take (length l.values.items) l.initial.values.items)
    × (l.place + length l.values.items ≡ l.from + length l.initial.values.items)
    × (l.from ≤ l.place)
