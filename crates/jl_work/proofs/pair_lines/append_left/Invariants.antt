use Rattle.std.proofs.Common.{◌≡◌, ◌++◌, drop}
use Rattle.jl_work.specs.Told.{unexamined_lines}
use Rattle.jl_work.proofs.pair_lines.append_left.Given as goal

abbrev pub invariant-loop-definition : goal.invariant-loop-definition
invariant-loop-definition l = l.out ++ unexamined_lines (drop l.definition-index l.left) ≡ l.initial.out ++ unexamined_lines (drop 0 l.left)
