-- Laws of the texts of keys.
use Rattle.std.specs.Prelude.{◌≡◌, Some}
use Rattle.jl_model.specs.declared.limits.TheConstants.{MOST_ARGUMENTS, MOST_TYPE_NODES}
use Rattle.jl_model.specs.declared.ty.Key.{Key}
use Rattle.jl_model.specs.declared.ty.Ty.TheViews.{Tuple}
use Rattle.jl_program.specs.declared.tree.Program.{Program}
use Rattle.jl_program.specs.Text.{function_name, type_text, type_names}
use Rattle.jl_program.specs.Valid.{IsValid}
use Rattle.jl_calculus.specs.Legal.{IsKeyOf}
use Rattle.jl_causes.specs.KeyTexts.{tuple_in}

-- keys of a valid program with the same texts are the same
abbrev pub KeysApart : Type 0
KeysApart =
    (P : Program) → IsValid P → (a b : Key) → IsKeyOf P a → IsKeyOf P b
    → function_name P a.function ≡ function_name P b.function → type_text P (Tuple a.types) ≡ type_text P (Tuple b.types) → a ≡ b

-- the types of a key of a valid program are read from their text
abbrev pub TypesAreRead : Type 0
TypesAreRead =
    (P : Program) → IsValid P → (key : Key) → IsKeyOf P key
    → tuple_in (type_names P) MOST_ARGUMENTS MOST_TYPE_NODES (type_text P (Tuple key.types)) ≡ Some key.types
