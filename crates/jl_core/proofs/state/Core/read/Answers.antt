use Rattle.std.proofs.Common.{◌∙◌, ap, sym, subst, refl, arith, map, slice_get}
use Rattle.std.proofs.lemmas.Option.{slice_get_read}
use Rattle.jl_calculus.specs.declared.step.Step.TheVariants as St
use Rattle.jl_calculus.specs.Core.{with_search, at_task}
use Rattle.jl_core.specs.Kept.{core_of, state_of}
use Rattle.jl_core.specs.Reached.{search_by}
use Rattle.jl_core.specs.State.{MayMake}
use Rattle.jl_core.specs.View.{task_of, search_of}
use Rattle.jl_core.proofs.KeepLemmas.{next_tasks, made_from}
use Rattle.jl_core.proofs.MakeLemmas.{read_bound, read_task, has_read}
use Rattle.jl_core.proofs.state.Core.read.Goals as goal

pub index-words-requires : goal.index-words-requires
index-words-requires c =
    let a = c.self.inside in
    let may = subst (λ s. MayMake s (St.Row c.args.task)) (sym c.self.view_is) c.requires in
    let last = c.in-Some.ensures ∙ ap (λ ts. search_by (slice_get (map task_of ts) c.args.task)) c.as_slice.ensures.value in
    omega (arith, read_bound _ _ (core_of a) _ c.self.invariant c.args.task (search_of c.in-Some.last) c.in-Some-row.row may last c.in-Some-row.ensures, a.words.ok.0)

pub begin_search-requires : goal.begin_search-requires
begin_search-requires c =
    let a = c.self.inside in
    read_task _ _ (core_of a) _ c.self.invariant c.args.task a.tasks.items (subst (λ s. MayMake s (St.Row c.args.task)) (sym c.self.view_is) c.requires) refl

pub invariant_of-self : goal.invariant_of-self
invariant_of-self c =
    let a = c.self.inside in
    let may = subst (λ s. MayMake s (St.Row c.args.task)) (sym c.self.view_is) c.requires in
    let last = c.in-Some.ensures ∙ ap (λ ts. search_by (slice_get (map task_of ts) c.args.task)) c.as_slice.ensures.value in
    let bound = read_bound _ _ (core_of a) _ c.self.invariant c.args.task (search_of c.in-Some.last) c.in-Some-row.row may last c.in-Some-row.ensures in
    let at = slice_get_read a.words.items _ c.in-Some-row.row c.index-words.result.now refl bound c.index-words.ensures in
    next_tasks _ _ (core_of a) _ c.self.invariant (St.Row c.args.task) _ may
    (has_read _ _ (core_of a) _ c.self.invariant c.args.task (search_of c.in-Some.last) c.in-Some-row.row c.index-words.result.now (map task_of c.begin_search.new.tasks.items) may last c.in-Some-row.ensures at
    (c.begin_search.ensures ∙ ap (λ x. at_task (with_search x) c.args.task (core_of a).tasks) c.after_row.ensures))
    refl refl

pub returns : goal.returns
returns c =
    let a = c.self.inside in
    let may = subst (λ s. MayMake s (St.Row c.args.task)) (sym c.self.view_is) c.requires in
    let last = c.in-Some.ensures ∙ ap (λ ts. search_by (slice_get (map task_of ts) c.args.task)) c.as_slice.ensures.value in
    let bound = read_bound _ _ (core_of a) _ c.self.invariant c.args.task (search_of c.in-Some.last) c.in-Some-row.row may last c.in-Some-row.ensures in
    let at = slice_get_read a.words.items _ c.in-Some-row.row c.index-words.result.now refl bound c.index-words.ensures in
    made_from (state_of a) _ _ (St.Row c.args.task) c.self.view_is refl refl
    (has_read _ _ (core_of a) _ c.self.invariant c.args.task (search_of c.in-Some.last) c.in-Some-row.row c.index-words.result.now (map task_of c.begin_search.new.tasks.items) may last c.in-Some-row.ensures at
    (c.begin_search.ensures ∙ ap (λ x. at_task (with_search x) c.args.task (core_of a).tasks) c.after_row.ensures))
