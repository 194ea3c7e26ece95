use Rattle.std.proofs.Common.{◌++◌, drop, List}
use Rattle.jl_model.specs.declared.ty.Ty.{Ty}
use Rattle.jl_model.specs.Ancestors.{table_of}
use Rattle.jl_types.specs.Reduce.{Thinned}
use Rattle.jl_types.proofs.reduce.thinned.Given as goal

abbrev pub invariant-loop-member : goal.invariant-loop-member
invariant-loop-member l = (us : List Ty) → Thinned (table_of l.table) l.candidate (drop l.member-index l.members) us → Thinned (table_of l.table) l.candidate l.members (l.left.items ++ us)
