-- What a table keeps.
use Rattle.std.specs.Prelude.{◌≡◌, ◌⊎◌, ℕ, List, Option, Some, slice_get}
use Rattle.jl_model.specs.declared.ty.Ty.{Ty}
use Rattle.jl_task.specs.Knows.{Knows, IsMethod}
use Rattle.jl_task.specs.declared.table.Kept.{Kept}

-- what is kept of a call is right
abbrev pub IsKept : Knows → Kept → Type 0
IsKept k x = IsMethod k x.key.function x.key.types x.world x.site x.statics

-- all that is kept is so
abbrev pub AreKept : Knows → List (Option Kept) → Type 0
AreKept k xs = (i : ℕ) (x : Kept) → slice_get xs i ≡ Some (Some x) → IsKept k x

-- nothing is kept
abbrev pub NoneKept : List (Option Kept) → Type 0
NoneKept xs = (i : ℕ) (x : Kept) → slice_get xs i ≡ Some (Some x) → ⊥

-- it is kept of this call in this world
pub record IsOf (x : Kept) (f : ℕ) (ts : List Ty) (w : ℕ) : Type 0 where
  pub function : x.key.function ≡ f
  pub types : x.key.types ≡ ts
  pub world : x.world ≡ w

-- this is kept somewhere, of this call in this world
pub record IsFound (xs : List (Option Kept)) (f : ℕ) (ts : List Ty) (w : ℕ) (kept : Kept) : Type 0 where
  pub place : ℕ
  pub at : slice_get xs place ≡ Some (Some kept)
  pub of_call : IsOf kept f ts w

-- what is kept then was kept before, or is this
abbrev pub IsPut : Kept → List (Option Kept) → List (Option Kept) → Type 0
IsPut x old new = (i : ℕ) (y : Kept) → slice_get new i ≡ Some (Some y) → (slice_get old i ≡ Some (Some y)) ⊎ (y ≡ x)
