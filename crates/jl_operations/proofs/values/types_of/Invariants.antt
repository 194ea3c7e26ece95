use Rattle.std.proofs.Common.{◌≡◌, ◌++◌, map, drop}
use Rattle.jl_program.specs.TypeOf.{type_of}
use Rattle.jl_operations.proofs.values.types_of.Given as goal

abbrev pub invariant-loop-value : goal.invariant-loop-value
invariant-loop-value l = (l.types.items ++ map type_of (drop l.value-index l.values)) ≡ map type_of l.values
