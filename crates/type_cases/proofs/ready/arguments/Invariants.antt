use Rattle.jl_match.specs.KeptRow.{AreConcrete}
use Rattle.type_cases.proofs.ready.arguments.Given as goal

abbrev pub invariant-loop-ty : goal.invariant-loop-ty
invariant-loop-ty l = AreConcrete l.table l.found.items
