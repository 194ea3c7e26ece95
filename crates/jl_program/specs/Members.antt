-- The members of a list of values, as they are kept.
use Rattle.std.specs.Prelude.{List}
use Rattle.jl_program.specs.declared.value.Value.{Value}
use Rattle.jl_program.specs.declared.value.Items.{Items}
use Rattle.jl_program.specs.declared.value.Items.TheVariants.{One, Two, Many}

abbrev pub members : Items → List Value
members (One vs) = vs
members (Two vs) = vs
members (Many vs) = vs.items
