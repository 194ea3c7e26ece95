use Rattle.std.proofs.Common.{◌≡◌, drop}
use Rattle.jl_written.specs.Signatures.{adopt_bounds}
use Rattle.jl_written.proofs.signatures.adopt_bounds.Given as goal

abbrev pub invariant-loop-place : goal.invariant-loop-place
invariant-loop-place g l = adopt_bounds (g.O.Order.below l.order) (drop l.place-index l.places) l.bounds.items ≡ adopt_bounds (g.O.Order.below l.order) l.places l.initial.bounds.items
