use Rattle.std.proofs.Common.{◌≡◌, ◌≤◌, ◌+◌, take, length}
use Rattle.jl_frames.proofs.scopes.drop_above.Given as goal

abbrev pub invariant-loop-place : goal.invariant-loop-place
invariant-loop-place l =
    (l.values.items ≡ take (length l.values.items) l.initial.values.items)
    × (l.place + length l.values.items ≡ l.from + length l.initial.values.items)
    × (l.from ≤ l.place)
