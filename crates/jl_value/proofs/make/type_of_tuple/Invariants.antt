use Rattle.std.proofs.Common.{◌≡◌, ◌+◌, ◌≤◌, ◌++◌, map, drop}
use Rattle.jl_model.specs.Counts.{total, nodes}
use Rattle.jl_program.specs.TypeOf.{type_of}
use Rattle.jl_value.proofs.make.type_of_tuple.Given as goal

abbrev pub invariant-loop-part : goal.invariant-loop-part
invariant-loop-part l = record {
  range : l.count ≤ 1024;
  rest : l.count + total (map nodes (map type_of (drop l.part-index l.parts))) ≡ 1 + total (map nodes (map type_of l.parts));
  items : (l.types.items ++ map type_of (drop l.part-index l.parts)) ≡ map type_of l.parts;
}
