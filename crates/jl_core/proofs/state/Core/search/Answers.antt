use Rattle.std.proofs.Common.{◌∙◌, ap, sym, subst, refl, arith, map, length}
use Rattle.jl_calculus.specs.declared.step.Step.TheVariants as St
use Rattle.jl_calculus.specs.Words.{fill_length}
use Rattle.jl_core.specs.Kept.{core_of, state_of}
use Rattle.jl_core.specs.State.{MayMake}
use Rattle.jl_core.specs.View.{row_of, task_of, stand_of}
use Rattle.jl_core.proofs.KeepLemmas.{there, few_words, next_tasks, tasks_core, searched, made_from}
use Rattle.jl_core.proofs.state.Core.search.Goals as goal

pub link_of-requires : goal.link_of-requires
link_of-requires c =
    let a = c.self.inside in
    omega (arith, few_words _ _ (core_of a) _ c.self.invariant, ap length c.as_slice-2.ensures.value)

pub see-requires : goal.see-requires
see-requires c =
    let a = c.self.inside in
    there _ _ (core_of a) _ c.self.invariant a.tasks.items c.args.task refl (subst (λ s. MayMake s (St.Head c.args.task c.args.key c.args.world)) (sym c.self.view_is) c.requires).running

pub begin_search-requires : goal.begin_search-requires
begin_search-requires c =
    let a = c.self.inside in
    let l = there _ _ (core_of a) _ c.self.invariant a.tasks.items c.args.task refl (subst (λ s. MayMake s (St.Head c.args.task c.args.key c.args.world)) (sym c.self.view_is) c.requires).running in
    omega (arith, l, c.see.ensures.len, a.tasks.ok.0, c.see.new.tasks.ok.0)

pub invariant_of-self : goal.invariant_of-self
invariant_of-self c =
    let a = c.self.inside in
    next_tasks _ _ (core_of a) _ c.self.invariant (St.Head c.args.task c.args.key c.args.world) _ (subst (λ s. MayMake s (St.Head c.args.task c.args.key c.args.world)) (sym c.self.view_is) c.requires)
    (tasks_core (core_of a) _ c.args.task (map task_of c.begin_search.new.tasks.items)
    (searched (core_of a) c.args.task c.args.key c.args.world (map task_of c.begin_search.new.tasks.items) (map task_of c.see.new.tasks.items) c.fill_length-count.result c.link_of.result (stand_of c.go_to-stand.result)
    (map row_of c.as_slice-2.result.now) c.see.ensures.tasks c.begin_search.ensures (c.fill_length-count.ensures ∙ ap (fill_length c.args.key) c.as_slice.ensures.value) c.go_to-stand.ensures c.link_of.ensures
    (ap (map row_of) c.as_slice-2.ensures.value ∙ c.self.invariant.words_told.rows)))
    refl refl

pub returns : goal.returns
returns c =
    let a = c.self.inside in
    made_from (state_of a) _ _ (St.Head c.args.task c.args.key c.args.world) c.self.view_is refl refl
    (tasks_core (core_of a) _ c.args.task (map task_of c.begin_search.new.tasks.items)
    (searched (core_of a) c.args.task c.args.key c.args.world (map task_of c.begin_search.new.tasks.items) (map task_of c.see.new.tasks.items) c.fill_length-count.result c.link_of.result (stand_of c.go_to-stand.result)
    (map row_of c.as_slice-2.result.now) c.see.ensures.tasks c.begin_search.ensures (c.fill_length-count.ensures ∙ ap (fill_length c.args.key) c.as_slice.ensures.value) c.go_to-stand.ensures c.link_of.ensures
    (ap (map row_of) c.as_slice-2.ensures.value ∙ c.self.invariant.words_told.rows)))
