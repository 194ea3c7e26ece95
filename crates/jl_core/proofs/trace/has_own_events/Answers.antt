use Rattle.std.proofs.Common.{◌∙◌, sym, List, Bor}
use Rattle.jl_calculus.specs.declared.history.TraceItem.{TraceItem}
use Rattle.jl_core.specs.Asked.{FollowsEvent}
use Rattle.jl_core.proofs.EnabledLemmas.{no_where, none_told}
use Rattle.jl_core.proofs.TraceLemmas.{miss_event}
use Rattle.jl_core.proofs.trace.has_own_events.Goals as goal

pub returns-in_default : goal.returns-in_default
returns-in_default c =
    let at = c.loop-i.i in
    let event = c.index-events-i.result in
    let left = c.loop-i.rest.now in
    let misses =
    none_told c.after_event.result ((rest : List TraceItem) → FollowsEvent at event left rest → ⊥) (λ (rest : Bor (List TraceItem)). FollowsEvent at event left rest.now) c.in_default.is c.after_event.ensures in
    no_where (miss_event c.args.events.now c.args.task c.args.trace.now left at event c.loop-i-test.true c.index-events-i.is c.loop-i.invariant (sym c.is_by.ensures ∙ c.if-not-is_by.false) misses)
