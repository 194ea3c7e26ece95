use Rattle.std.proofs.Common.{◌≡◌, map, take}
use Rattle.jl_program.specs.TypeOf.{type_of}
use Rattle.jl_machine.proofs.task.types_of.Given as goal

abbrev pub invariant-loop-value : goal.invariant-loop-value
invariant-loop-value l = l.types ≡ map type_of (take l.value-index l.values)
