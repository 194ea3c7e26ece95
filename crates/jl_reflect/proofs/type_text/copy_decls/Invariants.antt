use Rattle.std.proofs.Common.{◌≡◌, take}
use Rattle.jl_reflect.proofs.type_text.copy_decls.Given as goal

abbrev pub invariant-loop-number : goal.invariant-loop-number
invariant-loop-number l = l.decls ≡ take l.number l.table
