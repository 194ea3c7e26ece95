use Rattle.std.proofs.Common.{map}
use Rattle.jl_program.specs.Meaning.{datum}
use Rattle.jl_program.specs.ValidValue.{AllValid}
use Rattle.jl_value.specs.Samples.{sample_types}
use Rattle.value_cases.proofs.values.take_words.Given as goal

abbrev pub invariant-loop-word : goal.invariant-loop-word
invariant-loop-word l = AllValid sample_types (map datum l.stack.items)
