use Rattle.std.proofs.Common.{◌≡◌, drop}
use Rattle.jl_program.specs.Names.{same_text}
use Rattle.jl_operations.proofs.parts.is_same.Given as goal

abbrev pub invariant-loop-i : goal.invariant-loop-i
invariant-loop-i l = same_text l.left l.right ≡ same_text (drop l.i l.left) (drop l.i l.right)
