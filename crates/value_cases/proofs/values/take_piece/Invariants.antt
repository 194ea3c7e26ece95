use Rattle.std.proofs.Common.{map}
use Rattle.jl_program.specs.Meaning.{datum}
use Rattle.jl_program.specs.ValidValue.{AllValid}
use Rattle.jl_value.specs.Samples.{sample_types}
use Rattle.value_cases.proofs.values.take_piece.Given as goal

abbrev pub invariant-loop : goal.invariant-loop
invariant-loop l = AllValid sample_types (map datum l.stack.items)
