use Rattle.std.proofs.Common.{ℕ, ◌<◌, ◌≤◌}
use Rattle.jl_core.specs.Flags.{IsFlagged}
use Rattle.jl_core.proofs.range.last_of.Given as goal

abbrev pub invariant-loop-d : goal.invariant-loop-d
invariant-loop-d l = (l.world ≤ l.d) × ((d : ℕ) → l.world ≤ d → d < l.d → IsFlagged l.flags d → ⊥)
