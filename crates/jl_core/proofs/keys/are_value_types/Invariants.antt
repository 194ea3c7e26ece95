use Rattle.std.proofs.Common.{drop}
use Rattle.std.specs.List.{AllByRecursion}
use Rattle.jl_core.specs.KeyTypes.{IsFormed}
use Rattle.jl_core.proofs.keys.are_value_types.Given as goal

abbrev pub invariant-loop-ty : goal.invariant-loop-ty
invariant-loop-ty l = AllByRecursion (IsFormed l.table) (drop l.ty-index l.types) → AllByRecursion (IsFormed l.table) l.types
