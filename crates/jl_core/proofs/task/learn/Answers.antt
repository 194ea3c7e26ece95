use Rattle.jl_calculus.specs.Core.{with_known}
use Rattle.jl_core.proofs.TaskLemmas.{changed_at, same_at, on_ok, on_err}
use Rattle.jl_core.proofs.task.learn.Goals as goal

pub returns-clause-ok : goal.returns-clause-ok
returns-clause-ok c =
    on_ok c.learn.result (changed_at (with_known c.args.others.now) c.args.tasks.now.items c.args.task c.index_mut-state.result.now c.learn.new.self c.requires c.index_mut-state.ensures.value)
    c.learn.ensures.ok

pub returns-clause-err : goal.returns-clause-err
returns-clause-err c =
    on_err c.learn.result (same_at c.args.tasks.now.items c.args.task c.index_mut-state.result.now c.learn.new.self c.requires c.index_mut-state.ensures.value) c.learn.ensures.err
