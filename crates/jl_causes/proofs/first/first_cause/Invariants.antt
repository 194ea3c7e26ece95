use Rattle.std.proofs.Common.{◌≡◌, List, length, take}
use Rattle.jl_calculus.specs.declared.history.Event.{Event}
use Rattle.jl_causes.specs.Causes.{AreClean}
use Rattle.jl_causes.specs.State.{IsJudgeOf}
use Rattle.jl_causes.proofs.first.first_cause.Given as goal

abbrev pub invariant-loop-n : goal.invariant-loop-n
invariant-loop-n l =
    (es : List Event) × AreClean l.ready l.entries (take l.n l.entries) es × IsJudgeOf l.ready l.entries es l.judge × (length es ≡ l.n)
