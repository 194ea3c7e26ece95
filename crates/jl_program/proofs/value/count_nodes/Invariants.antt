use Rattle.std.proofs.Common.{◌≡◌, ◌+◌, ◌-◌, ◌^◌, ◌<◌, map, min, drop}
use Rattle.jl_program.specs.Meaning.{datum}
use Rattle.jl_program.specs.Measures.{nodes_all}
use Rattle.jl_program.proofs.value.count_nodes.Given as goal

abbrev pub invariant-loop-value : goal.invariant-loop-value
invariant-loop-value l = record {
  fits : l.nodes < 2 ^ 64;
  nodes : min (l.nodes + nodes_all (map datum (drop l.value-index l.values))) (2 ^ 64 - 1) ≡ min (nodes_all (map datum l.values)) (2 ^ 64 - 1);
}
