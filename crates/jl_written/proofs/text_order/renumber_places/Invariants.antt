use Rattle.std.proofs.Common.{◌≡◌, ◌++◌, map, drop}
use Rattle.jl_written.specs.TextOrder.{renumber_place}
use Rattle.jl_written.proofs.text_order.renumber_places.Given as goal

abbrev pub invariant-loop-place : goal.invariant-loop-place
invariant-loop-place l = (l.row ++ map (renumber_place l.places) (drop l.place-index l.known)) ≡ map (renumber_place l.places) l.known
