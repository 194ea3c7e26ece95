use Rattle.std.proofs.Common.{sym, subst, refl}
use Rattle.jl_calculus.specs.declared.history.Event.TheVariants as Ev
use Rattle.jl_calculus.specs.declared.step.Step.TheVariants as St
use Rattle.jl_core.specs.Kept.{core_of}
use Rattle.jl_core.specs.State.{MayMake}
use Rattle.jl_core.proofs.KeepLemmas.{there, event_kept}
use Rattle.jl_core.proofs.state.Core.name.Goals as goal

pub add_event-requires : goal.add_event-requires
add_event-requires c =
    let a = c.self.inside in
    there _ _ (core_of a) _ c.self.invariant a.tasks.items c.args.task refl (subst (λ s. MayMake s (St.Key c.args.task c.args.key)) (sym c.self.view_is) c.requires).free.running

pub invariant_of-self : goal.invariant_of-self
invariant_of-self c =
    let a = c.self.inside in
    let may = subst (λ s. MayMake s (St.Key c.args.task c.args.key)) (sym c.self.view_is) c.requires in
    event_kept _ _ (core_of a) _ c.self.invariant (St.Key c.args.task c.args.key) c.args.task (Ev.Key c.args.key) may.free.closed refl refl may refl _ refl c.add_event.result
    c.add_event.ensures.events c.add_event.ensures.tasks c.add_event.ensures.same_events c.add_event.ensures.same_tasks
