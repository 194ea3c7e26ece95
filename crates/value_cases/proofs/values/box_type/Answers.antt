use Rattle.std.proofs.Common.{refl}
use Rattle.jl_value.specs.Samples.{sample_types}
use Rattle.jl_value.proofs.SampleValues.{box-type}
use Rattle.value_cases.proofs.values.box_type.Goals as goal

pub returns : goal.returns
returns c = box-type sample_types _ c.args.argument refl c.in_ok-ty.ensures c.requires.built_in
