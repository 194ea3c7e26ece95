use Rattle.std.proofs.Common.{refl}
use Rattle.jl_value.specs.Samples.{sample_types}
use Rattle.jl_value.proofs.SampleValues.{pair-type, square-type, wood-type}
use Rattle.value_cases.proofs.values.struct_type.Goals as goal

pub returns-in-P : goal.returns-in-P
returns-in-P c = pair-type sample_types _ refl c.named.ensures

pub returns-in-Square : goal.returns-in-Square
returns-in-Square c = square-type sample_types _ refl c.named-in-Square.ensures

pub returns-in_default : goal.returns-in_default
returns-in_default c = wood-type sample_types _ refl c.named-in_default.ensures
