use Rattle.std.proofs.Common.{◌≡◌, ◌+◌, ◌≤◌, min, map, drop}
use Rattle.jl_model.specs.Counts.{total, nodes}
use Rattle.jl_types.proofs.count.+nodes.Given as goal

abbrev pub invariant-nodes_of_all-loop-ty : goal.invariant-nodes_of_all-loop-ty
invariant-nodes_of_all-loop-ty l = record {
  range : l.count ≤ l.most + 1;
  rest : min (l.count + total (map nodes (drop l.ty-index l.types))) (l.most + 1) ≡ min (total (map nodes l.types)) (l.most + 1);
}
