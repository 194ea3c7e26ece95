use Rattle.jl_written.proofs.OrderLemmas.{IsMovedTo}
use Rattle.jl_written.proofs.text_order.move_all.Given as goal

abbrev pub invariant-loop-at : goal.invariant-loop-at
invariant-loop-at l = IsMovedTo l.swap l.at l.places.items l.initial.places.items
