use Rattle.std.proofs.Common.{◌≡◌, drop}
use Rattle.jl_methods.specs.Numbered.{put_each}
use Rattle.jl_methods.specs.Room.{items_of, HasRoomAtEach}
use Rattle.jl_methods.proofs.lists.Lists.put_each.Given as goal

abbrev pub invariant-loop-number : goal.invariant-loop-number
invariant-loop-number g l =
    (put_each (items_of l.self) (drop l.number-index l.numbers) l.element ≡ put_each (items_of l.initial.self) l.numbers l.element)
    × HasRoomAtEach l.self (drop l.number-index l.numbers)
