use Rattle.std.proofs.Common.{◌≡◌, ◌++◌}
use Rattle.jl_program.specs.Text.{type_text}
use Rattle.jl_text.proofs.Joined.{rest}
use Rattle.jl_text.proofs.types.+types.Given as goal

abbrev pub invariant-append_joined-loop-i : goal.invariant-append_joined-loop-i
invariant-append_joined-loop-i l = l.out ++ rest (type_text l.program) l.types l.i ≡ l.initial.out ++ rest (type_text l.program) l.types 0
