use Rattle.std.proofs.Common.{◌≡◌, ◌+◌, ◌*◌, ◌≤◌, min, map, length, drop}
use Rattle.std.specs.List.{flat_map}
use Rattle.jl_model.specs.Rows.{choices, forms}
use Rattle.jl_sig.specs.Built.{placed}
use Rattle.jl_sig.proofs.expansion.+count.Given as goal

abbrev pub invariant-sum_of_forms-loop-ty : goal.invariant-sum_of_forms-loop-ty
invariant-sum_of_forms-loop-ty l = record {
  range : l.sum ≤ 257;
  rest : min (l.sum + length (flat_map (forms (placed l.places)) (drop l.ty-index l.types))) 257 ≡ min (length (flat_map (forms (placed l.places)) l.types)) 257;
}

abbrev pub invariant-product_of_forms-loop-ty : goal.invariant-product_of_forms-loop-ty
invariant-product_of_forms-loop-ty l = record {
  range : l.count ≤ 257;
  rest : min (l.count * length (choices (map (forms (placed l.places)) (drop l.ty-index l.types)))) 257 ≡ min (length (choices (map (forms (placed l.places)) l.types))) 257;
}
