-- Whether a struct's constructor can infer its type arguments (Julia manual, Constructors: Parametric Constructors).
use Rattle.std.specs.Prelude.{Bool, false, List, map, Option, Some, None}
use Rattle.std.specs.List.{list_all}
use Rattle.jl_model.specs.declared.ty.Decl.{Decl}
use Rattle.jl_model.specs.AllRows.{each_var}
use Rattle.jl_model.specs.Usable.{is_usable}
use Rattle.jl_program.specs.BodyTypes.{fields_written}

-- the field types of a struct make all its parameters usable
abbrev pub has_usable_parameters : Decl → Bool
has_usable_parameters d = list_all (λ b. b) (each_var (is_usable (fields_written d)) 0 d.params)

abbrev pub has_usable_parameters_at : Option Decl → Bool
has_usable_parameters_at None = false
has_usable_parameters_at (Some d) = has_usable_parameters d

-- the same of each declaration
abbrev pub all_find : List Decl → List Bool
all_find ds = map has_usable_parameters ds
