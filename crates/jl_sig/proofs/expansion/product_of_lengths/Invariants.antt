use Rattle.std.proofs.Common.{◌≡◌, ◌*◌, ◌≤◌, min, length, drop}
use Rattle.jl_model.specs.Rows.{choices}
use Rattle.jl_sig.proofs.expansion.product_of_lengths.Given as goal

abbrev pub invariant-loop-list : goal.invariant-loop-list
invariant-loop-list l = record {
  range : l.count ≤ 257;
  rest : min (l.count * length (choices (drop l.list-index l.lists))) 257 ≡ min (length (choices l.lists)) 257;
}
