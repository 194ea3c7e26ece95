use Rattle.std.proofs.Common.{length, drop}
use Rattle.std.specs.Prelude.{◌↔◌}
use Rattle.jl_calculus.specs.Legal.{AreTrueOf, first_place}
use Rattle.jl_calculus.specs.Past.{IsInOrder}
use Rattle.jl_core.proofs.trace.has_true_trace.Given as goal

abbrev pub invariant-loop-item : goal.invariant-loop-item
invariant-loop-item l =
    (AreTrueOf l.ready l.events l.task (drop l.item-index l.trace) × IsInOrder l.low (drop l.item-index l.trace) (length l.events))
    ↔ (AreTrueOf l.ready l.events l.task l.trace × IsInOrder (first_place l.task 0 l.events) l.trace (length l.events))
