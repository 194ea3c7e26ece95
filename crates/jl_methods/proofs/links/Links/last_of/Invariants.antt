use Rattle.std.proofs.Common.{take}
use Rattle.jl_methods.specs.Links.{linked_in, AreInOrder, IsLast, IsMadeBy}
use Rattle.jl_methods.specs.Room.{items_of}
use Rattle.jl_methods.proofs.links.Links.last_of.Given as goal

abbrev pub invariant-loop-number : goal.invariant-loop-number
invariant-loop-number l = AreInOrder (linked_in l.self) → IsLast (IsMadeBy (items_of l.self.worlds) (take l.number-index l.numbers)) l.world l.last
