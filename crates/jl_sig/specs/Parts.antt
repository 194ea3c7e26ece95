-- The types and arguments in a signature, as the code lists them.
use Rattle.std.specs.Prelude.{◌<◌, List, map}
use Rattle.std.specs.List.{Contains}
use Rattle.jl_model.specs.declared.limits.TheConstants.{MOST_ALTERNATIVES}
use Rattle.jl_model.specs.declared.ty.Ty.{Ty}
use Rattle.jl_model.specs.Counts.{raw}
use Rattle.jl_model.specs.Refusals.{Given}
use Rattle.jl_sig.specs.declared.arguments.Argument.{Argument}

-- one of these, or a part of one, has more than 256 raw alternatives
abbrev pub HasWide : List Ty → Type 0
HasWide ts = (t : Ty) × Contains ts t × (MOST_ALTERNATIVES < (raw t).widest)

abbrev pub given : Argument → Given
given a = record { of = a.of; place = a.place; ty = a.ty }

abbrev pub all_given : List Argument → List Given
all_given = map given
