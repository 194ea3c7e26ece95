use Rattle.std.proofs.Common.{drop}
use Rattle.jl_model.specs.Ancestors.{table_of}
use Rattle.jl_norm.proofs.CrossLemmas.{Crossed}
use Rattle.jl_norm.proofs.kept.is_crossed.Given as goal

abbrev pub invariant-loop-bound : goal.invariant-loop-bound
invariant-loop-bound l = Crossed (table_of l.table) l.kept.params → Crossed (table_of l.table) (drop l.bound-index l.kept.params)
