use Rattle.std.proofs.Common.{◌∙◌, ◌++◌, ◌∷◌, [], ap, sym, subst, refl}
use Rattle.jl_calculus.specs.declared.step.Step.TheVariants as St
use Rattle.jl_calculus.specs.Core as C
use Rattle.jl_core.specs.Kept.{core_of, opened_of}
use Rattle.jl_core.specs.State.{MayMake}
use Rattle.jl_core.proofs.KeepLemmas.{there}
use Rattle.jl_core.proofs.MakeLemmas.{open_running, publish_next}
use Rattle.jl_core.proofs.state.Core.publish.Goals as goal

pub add_event-requires : goal.add_event-requires
add_event-requires c =
    let a = c.self.inside in
    let o : C.Opened = record { task = c.in-Some.opening.task; change = c.in-Some.opening.change; cut = a.cut.items } in
    there _ _ (core_of a) _ c.self.invariant a.tasks.items c.in-Some.opening.task refl (open_running _ _ (core_of a) _ c.self.invariant o (ap (λ x. opened_of x a.cut.items) c.in-Some.is))

pub invariant_of-self-2 : goal.invariant_of-self-2
invariant_of-self-2 c =
    let a = c.self.inside in
    let o : C.Opened = record { task = c.in-Some.opening.task; change = c.in-Some.opening.change; cut = a.cut.items } in
    publish_next _ _ (core_of a) _ c.self.invariant o _ (subst (λ s. MayMake s St.Publish) (sym c.self.view_is) c.requires) (ap (λ x. opened_of x a.cut.items) c.in-Some.is)
    (c.in_ok-add_event.ensures.events ∙ ap (λ e. a.events.items ++ e ∷ []) c.event-event.ensures) c.in_ok-add_event.ensures.tasks refl
