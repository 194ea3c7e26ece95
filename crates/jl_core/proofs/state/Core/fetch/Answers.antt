use Rattle.std.proofs.Common.{◌∙◌, ap, sym, subst, refl, map}
use Rattle.jl_calculus.specs.declared.step.Step.TheVariants as St
use Rattle.jl_calculus.specs.Past.{done_of}
use Rattle.jl_calculus.specs.Core.{in_outcome}
use Rattle.jl_core.specs.Kept.{core_of, state_of}
use Rattle.jl_core.specs.State.{MayMake}
use Rattle.jl_core.specs.View.{task_of}
use Rattle.jl_core.proofs.KeepLemmas.{next_tasks, made_from}
use Rattle.jl_core.proofs.MakeLemmas.{has_fetched}
use Rattle.jl_core.proofs.state.Core.fetch.Goals as goal

pub invariant_of-self-2 : goal.invariant_of-self-2
invariant_of-self-2 c =
    let a = c.self.inside in
    next_tasks _ _ (core_of a) _ c.self.invariant (St.Fetch c.args.task c.args.of) _ (subst (λ s. MayMake s (St.Fetch c.args.task c.args.of)) (sym c.self.view_is) c.requires)
    (has_fetched _ _ (core_of a) _ c.self.invariant c.args.task c.args.of c.in-Some.ended.now c.as_slice-2.result.now c.len.result (map task_of c.see.new.tasks.items) (map task_of c.learn.new.tasks.items)
    (ap (done_of c.args.of) (sym c.as_slice.ensures.value) ∙ c.in-Some.ensures) (c.as_slice-2.ensures.value ∙ c.in_ok-others.ensures ∙ ap in_outcome c.get.ensures) (c.len.ensures ∙ a.events.ok.0) c.in_ok-learn.ensures.ok c.see.ensures.tasks)
    refl refl

pub returns-clause-made : goal.returns-clause-made
returns-clause-made c =
    let a = c.self.inside in
    made_from (state_of a) _ _ (St.Fetch c.args.task c.args.of) c.self.view_is refl refl
    (has_fetched _ _ (core_of a) _ c.self.invariant c.args.task c.args.of c.in-Some.ended.now c.as_slice-2.result.now c.len.result (map task_of c.see.new.tasks.items) (map task_of c.learn.new.tasks.items)
    (ap (done_of c.args.of) (sym c.as_slice.ensures.value) ∙ c.in-Some.ensures) (c.as_slice-2.ensures.value ∙ c.in_ok-others.ensures ∙ ap in_outcome c.get.ensures) (c.len.ensures ∙ a.events.ok.0) c.in_ok-learn.ensures.ok c.see.ensures.tasks)
