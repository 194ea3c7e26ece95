use Rattle.std.proofs.Common.{◌≡◌, map, drop}
use Rattle.jl_program.specs.Meaning.{datum}
use Rattle.jl_calculus.specs.Operations.{part_named}
use Rattle.jl_operations.proofs.parts.part_named.Given as goal

abbrev pub invariant-loop-i : goal.invariant-loop-i
invariant-loop-i l = part_named l.name l.fields (map datum l.parts) ≡ part_named l.name (drop l.i l.fields) (map datum (drop l.i l.parts))
