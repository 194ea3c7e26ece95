use Rattle.std.proofs.Common.{◌≡◌, drop, ◌++◌}
use Rattle.jl_replay.specs.Told.{items_told, stretch}
use Rattle.jl_replay.proofs.steps.read_stretch.Given as goal

-- what was read, and what is left
abbrev pub invariant-loop-n : goal.invariant-loop-n
invariant-loop-n l = l.items.items ++ items_told l.past.1 (stretch (drop l.n l.steps)) ≡ l.initial.items.items ++ items_told l.past.1 (stretch (drop l.initial.n l.steps))
