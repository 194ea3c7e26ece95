use Rattle.std.proofs.Common.{◌≡◌, ◌++◌, drop}
use Rattle.jl_operations.proofs.questions.push_types.Given as goal

abbrev pub invariant-loop-ty : goal.invariant-loop-ty
invariant-loop-ty l = (l.types.items ++ drop l.ty-index l.more) ≡ l.initial.types.items ++ l.more
