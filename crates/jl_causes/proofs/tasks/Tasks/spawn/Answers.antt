use Rattle.std.proofs.Common.{◌∙◌, ap, arith, [], ◌∷◌, ◌++◌, ◌+◌, ◌<◌, length, get_or}
use Rattle.std.specs.Prelude.{slice_set}
use Rattle.std.proofs.lemmas.List.{get_or_read}
use Rattle.jl_report.specs.declared.entry.Step.TheVariants as S
use Rattle.jl_causes.proofs.TaskLemmas.{task_spawns}
use Rattle.jl_causes.proofs.tasks.Tasks.spawn.Goals as goal

pub returns : goal.returns
returns c = λ es start h at next.
    let (ds, k, l) = c.requires in
    let t = c.args.self.now in
    let own = t.own.items in
    let task = c.args.task in
    let child = c.args.child in
    let row = c.push.new.self in
    let within : task < length own = omega (arith, k.many_own, l) in
    task_spawns es t _ task child start row (c.in_ok-push-3.ensures.items ∙ ap (λ n. t.firsts.items ++ (n + 1) ∷ []) at) c.in_ok-push-4.ensures.items
    (c.in_ok-push-2.ensures.items ∙ ap (λ r. slice_set own task row ++ r ∷ []) c.new.ensures) within
    (c.in_ok-push.ensures ∙ ap (λ xs. xs ++ S.Spawn child c.args.at ∷ []) (get_or_read own task c.index_mut.result.now within c.index_mut.ensures.value []) ∙ ap (λ n. get_or own task [] ++ S.Spawn child n ∷ []) at) next h
