use Rattle.std.proofs.Common.{List, length, take, drop}
use Rattle.std.specs.Prelude.{◌↔◌}
use Rattle.jl_calculus.specs.declared.history.Event.{Event}
use Rattle.jl_calculus.specs.Legal.{AreTrueOf, first_place}
use Rattle.jl_calculus.specs.Past.{IsInOrder}
use Rattle.jl_causes.specs.Sketch.{items_of, AllTell}
use Rattle.jl_causes.specs.State.{IsJudgeOf}
use Rattle.jl_causes.proofs.trace.has_true_trace.Given as goal

abbrev pub invariant-loop-step : goal.invariant-loop-step
invariant-loop-step l =
    (es : List Event) → IsJudgeOf l.ready l.entries es l.judge → AllTell l.ready (take (length es) l.entries) es
    → (AreTrueOf l.ready es l.task (items_of (drop l.step-index l.trace)) × IsInOrder l.low (items_of (drop l.step-index l.trace)) (length es))
    ↔ (AreTrueOf l.ready es l.task (items_of l.trace) × IsInOrder (first_place l.task 0 es) (items_of l.trace) (length es))
