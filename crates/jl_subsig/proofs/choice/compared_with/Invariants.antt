use Rattle.std.proofs.Common.{◌≡◌, length}
use Rattle.jl_model.specs.Ancestors.{table_of}
use Rattle.jl_sig.specs.SigParts.{written_of}
use Rattle.jl_subsig.specs.Decide.{methods_in}
use Rattle.jl_subsig.proofs.CompareLemmas.{Answered}
use Rattle.jl_subsig.proofs.choice.compared_with.Given as goal

abbrev pub invariant-loop-method : goal.invariant-loop-method
invariant-loop-method l = record {
  so_far : Answered (table_of l.table) (written_of l.sig) (methods_in l.methods) l.answers.items;
  long : length l.answers.items ≡ l.method-index;
}
