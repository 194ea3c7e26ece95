use Rattle.std.proofs.Common.{◌≡◌, ◌∙◌, ◌++◌, ◌∷◌, [], ap, sym, subst, refl, arith, map, length, ◌+◌}
use Rattle.std.proofs.lemmas.List.{map-append}
use Rattle.jl_calculus.specs.declared.history.Event.TheVariants as Ev
use Rattle.jl_calculus.specs.declared.step.Step.TheVariants as St
use Rattle.jl_calculus.specs.Core.{with_known, at_task}
use Rattle.jl_calculus.specs.Past.{tasks_of}
use Rattle.jl_core.specs.Kept.{core_of, state_of}
use Rattle.jl_core.specs.State.{MayMake}
use Rattle.jl_core.specs.View.{task_of}
use Rattle.jl_core.proofs.KeepLemmas.{count_of, there, next_event, made_from}
use Rattle.jl_core.proofs.MakeLemmas.{few_tasks, has_spawned}
use Rattle.jl_core.proofs.state.Core.spawn.Goals as goal

pub overflow_cast-child : goal.overflow_cast-child
overflow_cast-child c =
    let a = c.self.inside in
    omega (arith, few_tasks _ _ (core_of a) _ c.self.invariant, count_of _ _ (core_of a) _ c.self.invariant a.tasks.items refl, c.len-child.ensures, c.in_ok-reserve.ensures.len, a.tasks.ok.0)

pub learn-requires : goal.learn-requires
learn-requires c =
    let a = c.self.inside in
    let l = there _ _ (core_of a) _ c.self.invariant a.tasks.items c.args.task refl (subst (λ s. MayMake s (St.Spawn c.args.task c.args.start)) (sym c.self.view_is) c.requires).free.running in
    omega (arith, l, ap length c.in_ok-reserve.ensures.items)

pub see-requires : goal.see-requires
see-requires c =
    let a = c.self.inside in
    let l = there _ _ (core_of a) _ c.self.invariant a.tasks.items c.args.task refl (subst (λ s. MayMake s (St.Spawn c.args.task c.args.start)) (sym c.self.view_is) c.requires).free.running in
    omega (arith, l, c.in_ok-learn.ensures.len, c.in_ok-reserve.ensures.len, a.tasks.ok.0, c.learn.new.tasks.ok.0)

pub invariant_of-self-2 : goal.invariant_of-self-2
invariant_of-self-2 c =
    let a = c.self.inside in
    let may = subst (λ s. MayMake s (St.Spawn c.args.task c.args.start)) (sym c.self.view_is) c.requires in
    let child : c.len-child.result ≡ tasks_of a.events.items = c.len-child.ensures ∙ c.in_ok-reserve.ensures.len ∙ a.tasks.ok.0 ∙ count_of _ _ (core_of a) _ c.self.invariant a.tasks.items refl in
    let seen : c.len-seen.result ≡ length a.events.items + 1 = omega (arith, c.len-seen.ensures, c.push_reserved.ensures.len, c.in_ok-reserve-2.ensures.len, a.events.ok.0) in
    let events = c.push_reserved.ensures.items ∙ ap (λ es. es ++ Ev.Spawn c.args.task c.len-child.result c.args.start ∷ []) c.in_ok-reserve-2.ensures.items in
    next_event _ _ (core_of a) _ c.self.invariant (St.Spawn c.args.task c.args.start) (Ev.Spawn c.args.task c.len-child.result c.args.start) _ may.free.closed refl refl may
    (has_spawned _ _ (core_of a) _ c.self.invariant c.args.task c.args.start c.len-child.result c.len-seen.result c.in_ok-known.known.items _ (map task_of c.learn.new.tasks.items) (map task_of c.see.new.tasks.items)
    child seen c.in_ok-known.ensures may.free.closed events
    (c.in_ok-learn.ensures.ok ∙ ap (λ ts. at_task (with_known (c.len-child.result ∷ [])) c.args.task (map task_of ts)) c.in_ok-reserve.ensures.items)
    c.see.ensures.tasks
    (ap (map task_of) c.push_reserved-2.ensures.items ∙ map-append task_of c.see.new.tasks.items _) refl)
    events may.free.closed

pub returns-clause-made : goal.returns-clause-made
returns-clause-made c =
    let a = c.self.inside in
    let may = subst (λ s. MayMake s (St.Spawn c.args.task c.args.start)) (sym c.self.view_is) c.requires in
    let child : c.len-child.result ≡ tasks_of a.events.items = c.len-child.ensures ∙ c.in_ok-reserve.ensures.len ∙ a.tasks.ok.0 ∙ count_of _ _ (core_of a) _ c.self.invariant a.tasks.items refl in
    let seen : c.len-seen.result ≡ length a.events.items + 1 = omega (arith, c.len-seen.ensures, c.push_reserved.ensures.len, c.in_ok-reserve-2.ensures.len, a.events.ok.0) in
    let events = c.push_reserved.ensures.items ∙ ap (λ es. es ++ Ev.Spawn c.args.task c.len-child.result c.args.start ∷ []) c.in_ok-reserve-2.ensures.items in
    made_from (state_of a) _ _ (St.Spawn c.args.task c.args.start) c.self.view_is refl refl
    (has_spawned _ _ (core_of a) _ c.self.invariant c.args.task c.args.start c.len-child.result c.len-seen.result c.in_ok-known.known.items _ (map task_of c.learn.new.tasks.items) (map task_of c.see.new.tasks.items)
    child seen c.in_ok-known.ensures may.free.closed events
    (c.in_ok-learn.ensures.ok ∙ ap (λ ts. at_task (with_known (c.len-child.result ∷ [])) c.args.task (map task_of ts)) c.in_ok-reserve.ensures.items)
    c.see.ensures.tasks
    (ap (map task_of) c.push_reserved-2.ensures.items ∙ map-append task_of c.see.new.tasks.items _) refl)
