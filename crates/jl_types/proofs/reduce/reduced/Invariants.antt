use Rattle.std.proofs.Common.{[], drop, List}
use Rattle.jl_model.specs.declared.ty.Ty.{Ty}
use Rattle.jl_model.specs.Ancestors.{table_of}
use Rattle.jl_types.specs.Reduce.{Candidates, Reduces}
use Rattle.jl_types.proofs.reduce.reduced.Given as goal

abbrev pub invariant-loop-candidate : goal.invariant-loop-candidate
invariant-loop-candidate l = record {
  members : Candidates l.table l.members.items;
  rest : (us : List Ty) → Reduces (table_of l.table) (drop l.candidate-index l.candidates) l.members.items us → Reduces (table_of l.table) l.candidates [] us;
}
