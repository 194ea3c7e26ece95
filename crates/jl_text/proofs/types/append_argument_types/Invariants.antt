use Rattle.std.proofs.Common.{◌≡◌, ◌++◌, codes}
use Rattle.jl_program.specs.Text.{type_text}
use Rattle.jl_text.proofs.Joined.{rest}
use Rattle.jl_text.proofs.types.append_argument_types.Given as goal

abbrev pub invariant-loop-i : goal.invariant-loop-i
invariant-loop-i l = l.out ++ rest (λ t. codes "::" ++ type_text l.program t) l.types l.i ≡ l.initial.out ++ rest (λ t. codes "::" ++ type_text l.program t) l.types 0
