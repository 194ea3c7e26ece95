use Rattle.std.proofs.Common.{◌≡◌, ◌++◌, map, drop}
use Rattle.jl_written.specs.TextOrder.{renumber}
use Rattle.jl_written.proofs.text_order.+renumber.Given as goal

abbrev pub invariant-renumber_all-loop-part : goal.invariant-renumber_all-loop-part
invariant-renumber_all-loop-part l = (l.tys ++ map (renumber l.places) (drop l.part-index l.parts)) ≡ map (renumber l.places) l.parts
