use Rattle.std.proofs.Common.{◌∙◌, ap, refl, arith, [], ◌∷◌, ◌++◌, ◌<◌, length, get_or}
use Rattle.std.proofs.lemmas.List.{get_or_read}
use Rattle.jl_calculus.specs.declared.history.Event.TheVariants as Ev
use Rattle.jl_report.specs.declared.entry.Step.TheVariants as S
use Rattle.jl_causes.proofs.TaskLemmas.{task_changes}
use Rattle.jl_causes.proofs.tasks.Tasks.delete.Goals as goal

pub returns : goal.returns
returns c = λ es h at.
    let (ds, k, l) = c.requires in
    let own = c.args.self.now.own.items in
    let task = c.args.task in
    let place = c.args.place in
    let within : task < length own = omega (arith, k.many_own, l) in
    task_changes es c.args.self.now _ task (Ev.Del task place) (S.Del place (length es)) c.push.new.self refl (λ k. refl) (λ k p. refl) (λ k. refl) (λ k. refl) refl refl refl within
    (c.in_ok-push.ensures ∙ ap (λ xs. xs ++ S.Del place c.args.at ∷ []) (get_or_read own task c.index_mut.result.now within c.index_mut.ensures.value []) ∙ ap (λ n. get_or own task [] ++ S.Del place n ∷ []) at) h
