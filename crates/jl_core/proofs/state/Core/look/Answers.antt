use Rattle.std.proofs.Common.{◌∙◌, ap, sym, subst, refl}
use Rattle.jl_calculus.specs.declared.step.Step.TheVariants as St
use Rattle.jl_calculus.specs.Core.{with_seen, at_task}
use Rattle.jl_calculus.specs.Words.{world_length}
use Rattle.jl_core.specs.Kept.{core_of}
use Rattle.jl_core.specs.State.{MayMake}
use Rattle.jl_core.proofs.KeepLemmas.{there, next_tasks, tasks_core}
use Rattle.jl_core.proofs.state.Core.look.Goals as goal

pub see-requires : goal.see-requires
see-requires c =
    let a = c.self.inside in
    there _ _ (core_of a) _ c.self.invariant a.tasks.items c.args.task refl (subst (λ s. MayMake s (St.Look c.args.task)) (sym c.self.view_is) c.requires)

pub invariant_of-self : goal.invariant_of-self
invariant_of-self c =
    let a = c.self.inside in
    next_tasks _ _ (core_of a) _ c.self.invariant (St.Look c.args.task) _ (subst (λ s. MayMake s (St.Look c.args.task)) (sym c.self.view_is) c.requires)
    (tasks_core (core_of a) (with_seen (world_length a.events.items)) c.args.task _
    (c.see.ensures.tasks ∙ ap (λ n. at_task (with_seen n) c.args.task (core_of a).tasks) (c.world_length-count.ensures ∙ ap world_length c.as_slice.ensures.value)))
    refl refl
