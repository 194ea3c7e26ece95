use Rattle.std.proofs.Common.{◌≡◌, ◌++◌, drop}
use Rattle.jl_work.specs.Told.{pair_lines}
use Rattle.jl_work.proofs.pair_lines.append_pairs.Given as goal

abbrev pub invariant-loop-pair : goal.invariant-loop-pair
invariant-loop-pair l = l.out ++ pair_lines l.program l.made (drop l.pair-index l.pairs) ≡ l.initial.out ++ pair_lines l.program l.made (drop 0 l.pairs)
