use Rattle.jl_calculus.specs.Core.{with_seen}
use Rattle.jl_core.proofs.TaskLemmas.{changed_at}
use Rattle.jl_core.proofs.task.see.Goals as goal

pub returns-clause-tasks : goal.returns-clause-tasks
returns-clause-tasks c =
    changed_at (with_seen c.args.count) c.args.tasks.now.items c.args.task c.index_mut-state.result.now c.see.new.self c.requires c.index_mut-state.ensures.value c.see.ensures
