use Rattle.std.proofs.Common.{◌≡◌, ◌+◌, ◌*◌, ◌++◌, map, drop}
use Rattle.std.specs.List.{flat_map}
use Rattle.jl_program.specs.Meaning.{datum}
use Rattle.jl_program.specs.Measures.{nodes, nodes_all}
use Rattle.jl_calculus.specs.Core.{tasks_in}
use Rattle.jl_core.proofs.mention.+values.Given as goal

abbrev pub decreases-append_tasks : goal.decreases-append_tasks
decreases-append_tasks l = 2 * nodes (datum l.value.now)

abbrev pub decreases-append_all : goal.decreases-append_all
decreases-append_all l = 2 * nodes_all (map datum l.values.now) + 1

abbrev pub invariant-append_all-loop-value : goal.invariant-append_all-loop-value
invariant-append_all-loop-value l =
    l.out.items ++ flat_map tasks_in (map datum (drop l.value-index l.values)) ≡ l.initial.out.items ++ flat_map tasks_in (map datum l.values)
