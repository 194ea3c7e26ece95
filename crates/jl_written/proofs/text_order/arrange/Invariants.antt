use Rattle.std.proofs.Common.{◌≡◌, drop}
use Rattle.jl_written.specs.TextOrder.{arrange}
use Rattle.jl_written.proofs.text_order.arrange.Given as goal

abbrev pub invariant-loop-at : goal.invariant-loop-at
invariant-loop-at l = arrange l.places l.at (drop l.at l.bounds) l.arranged.items ≡ arrange l.places 0 l.bounds l.bounds
