use Rattle.std.proofs.Common.{drop}
use Rattle.jl_model.specs.Ancestors.{table_of}
use Rattle.jl_types.specs.Reduce.{BelowNoSmall}
use Rattle.jl_types.proofs.reduce.is_covered.Given as goal

abbrev pub invariant-loop-member : goal.invariant-loop-member
invariant-loop-member l = BelowNoSmall (table_of l.table) l.candidate (drop l.member-index l.members) → BelowNoSmall (table_of l.table) l.candidate l.members
