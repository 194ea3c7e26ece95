use Rattle.std.proofs.Common.{refl}
use Rattle.jl_value.specs.Samples.{sample_types}
use Rattle.jl_value.proofs.SampleValues.{part-type}
use Rattle.value_cases.proofs.values.part_type.Goals as goal

pub returns : goal.returns
returns c = part-type sample_types _ refl c.in_ok-ty.ensures
