-- Types in a declaration that are too large to be kept.
use Rattle.std.specs.Prelude.{◌⊎◌, List, [], ◌∷◌}
use Rattle.jl_model.specs.declared.ty.Ty.{Ty}
use Rattle.jl_model.specs.declared.ty.Decl.{Decl}
use Rattle.jl_model.specs.Kept.{field_types}
use Rattle.jl_model.specs.Refusals.{bound_types}
use Rattle.jl_types.specs.Form.{IsTooLarge, IsKeptTooLarge}

-- one of these is too large for a normal form
abbrev pub SomeTooLarge : List Decl → List Ty → Type 0
SomeTooLarge ds [] = ⊥
SomeTooLarge ds (t ∷ ts) = IsTooLarge ds t ⊎ SomeTooLarge ds ts

-- one of these is too large, as written or as it would be kept
abbrev pub SomeKeptTooLarge : List Decl → List Ty → Type 0
SomeKeptTooLarge ds [] = ⊥
SomeKeptTooLarge ds (t ∷ ts) = IsKeptTooLarge ds t ⊎ SomeKeptTooLarge ds ts

-- a bound, the parent or the type of a field is
abbrev pub IsKeptLimit : List Decl → Decl → Type 0
IsKeptLimit ds d = SomeTooLarge ds (bound_types d.params) ⊎ (IsKeptTooLarge ds d.parent ⊎ SomeKeptTooLarge ds (field_types d.fields))
