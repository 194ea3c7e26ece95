use Rattle.std.proofs.Common.{ap, refl, arith, ◌+◌, ◌<◌, length}
use Rattle.std.specs.Prelude.{slice_set}
use Rattle.jl_causes.proofs.TaskLemmas.{task_ends}
use Rattle.jl_causes.proofs.tasks.Tasks.end.Goals as goal

pub returns : goal.returns
returns c = λ es ended h at run.
    let (ds, k, l) = c.requires in
    let t = c.args.self.now in
    let within : c.args.task < length t.ends.items = omega (arith, k.many_ends, l) in
    task_ends es t _ c.args.task ended refl (ap (λ n. slice_set t.ends.items c.args.task (n + 1)) at) refl within run h
