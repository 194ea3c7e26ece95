use Rattle.std.proofs.Common.{◌≡◌, ◌++◌, map, drop}
use Rattle.jl_sites.specs.Places.{joined, item_places}
use Rattle.jl_sites.proofs.gather.put_script.Given as goal

abbrev pub invariant-loop-item : goal.invariant-loop-item
invariant-loop-item l = l.out ++ joined (map item_places (drop l.item-index l.fn.script.items)) ≡ l.initial.out ++ joined (map item_places l.fn.script.items)
