use Rattle.std.proofs.Common.{◌≡◌, ℕ, [], length}
use Rattle.jl_methods.specs.Numbered.{nth}
use Rattle.jl_methods.specs.Room.{items_of}
use Rattle.jl_methods.proofs.lists.empty_lists.Given as goal

abbrev pub invariant-loop : goal.invariant-loop
invariant-loop g l = (length (items_of l.lists) ≡ l.counter) × ((n : ℕ) → nth (items_of l.lists) n ≡ [])
