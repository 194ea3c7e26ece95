use Rattle.std.proofs.Common.{refl}
use Rattle.jl_calculus.specs.Core.{with_search}
use Rattle.jl_core.specs.View.{search_of}
use Rattle.jl_core.proofs.TaskLemmas.{changed_at}
use Rattle.jl_core.proofs.task.begin_search.Goals as goal

pub returns : goal.returns
returns c =
    changed_at (with_search (search_of c.args.last)) c.args.tasks.now.items c.args.task c.index_mut-state.result.now _ c.requires c.index_mut-state.ensures.value refl
