use Rattle.std.proofs.Common.{◌++◌, List, drop}
use Rattle.jl_model.specs.declared.ty.Ty.{Ty}
use Rattle.jl_model.specs.Ancestors.{table_of}
use Rattle.jl_model.specs.Subtype.{Equal}
use Rattle.jl_model.specs.AllRows.{Above}
use Rattle.jl_sig.proofs.variables.above.Given as goal

abbrev pub invariant-loop-i : goal.invariant-loop-i
invariant-loop-i l =
    (t : Ty) → Equal (table_of l.table) t l.low → (ps : List Ty) → Above (table_of l.table) t (drop l.i l.alternatives) ps → Above (table_of l.table) t l.alternatives (l.picks.items ++ ps)
