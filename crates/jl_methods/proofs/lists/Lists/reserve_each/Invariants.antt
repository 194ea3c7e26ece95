use Rattle.std.proofs.Common.{◌≡◌, take}
use Rattle.std.specs.List.{All}
use Rattle.jl_methods.specs.Room.{items_of, HasRoomAt}
use Rattle.jl_methods.proofs.lists.Lists.reserve_each.Given as goal

abbrev pub invariant-loop-number : goal.invariant-loop-number
invariant-loop-number g l =
    (items_of l.self ≡ items_of l.initial.self) × All (HasRoomAt l.self) (take l.number-index l.numbers)
