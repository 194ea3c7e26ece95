use Rattle.std.proofs.Common.{take}
use Rattle.jl_methods.specs.Links.{linked_in, AreInOrder, AreLastDels}
use Rattle.jl_methods.specs.Room.{items_of}
use Rattle.jl_methods.proofs.links.Links.latest_dels.Given as goal

abbrev pub invariant-loop-place : goal.invariant-loop-place
invariant-loop-place l = AreInOrder (linked_in l.self) → AreLastDels (items_of l.self.worlds) (take l.place-index l.places) l.world l.those.items
