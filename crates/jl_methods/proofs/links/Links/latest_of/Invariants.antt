use Rattle.std.proofs.Common.{ℕ, take}
use Rattle.std.specs.Prelude.{◌↔◌}
use Rattle.std.specs.List.{Contains}
use Rattle.jl_methods.specs.Links.{linked_in, AreInOrder, IsLastMade}
use Rattle.jl_methods.specs.Room.{items_of}
use Rattle.jl_methods.proofs.links.Links.latest_of.Given as goal

abbrev pub invariant-loop-number : goal.invariant-loop-number
invariant-loop-number l = AreInOrder (linked_in l.self) → (d : ℕ) → Contains l.those.items d ↔ IsLastMade (items_of l.self.worlds) (take l.number-index l.numbers) l.world d
