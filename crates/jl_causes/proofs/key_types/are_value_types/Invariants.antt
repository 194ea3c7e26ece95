use Rattle.std.proofs.Common.{drop}
use Rattle.std.specs.List.{AllByRecursion}
use Rattle.jl_causes.specs.KeyTypes.{IsKept}
use Rattle.jl_causes.proofs.key_types.are_value_types.Given as goal

abbrev pub invariant-loop-ty : goal.invariant-loop-ty
invariant-loop-ty l = AllByRecursion (IsKept l.table) (drop l.ty-index l.types) → AllByRecursion (IsKept l.table) l.types
