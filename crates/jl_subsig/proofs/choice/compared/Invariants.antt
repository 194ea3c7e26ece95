use Rattle.std.proofs.Common.{◌≡◌, length}
use Rattle.jl_model.specs.Ancestors.{table_of}
use Rattle.jl_subsig.specs.Decide.{methods_in}
use Rattle.jl_subsig.proofs.CompareLemmas.{AllAnswered}
use Rattle.jl_subsig.proofs.choice.compared.Given as goal

abbrev pub invariant-loop-method : goal.invariant-loop-method
invariant-loop-method l = record {
  so_far : AllAnswered (table_of l.table) (methods_in l.methods) l.rows.items;
  long : length l.rows.items ≡ l.method-index;
}
