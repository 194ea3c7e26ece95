use Rattle.std.proofs.Common.{◌≡◌, ◌++◌, drop}
use Rattle.jl_written.specs.TextOrder.{count_from, move_by_all}
use Rattle.jl_written.proofs.text_order.find_places.Given as goal

abbrev pub invariant-loop-place : goal.invariant-loop-place
invariant-loop-place l = l.places.items ++ count_from l.place (drop l.place l.reading.vars) ≡ count_from 0 l.reading.vars

abbrev pub invariant-loop-swap : goal.invariant-loop-swap
invariant-loop-swap l = move_by_all (drop l.swap-index l.reading.swaps) l.places.items ≡ move_by_all l.reading.swaps l.initial.places.items
