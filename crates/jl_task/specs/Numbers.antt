-- Methods that are chosen for two numbers.
use Rattle.std.specs.Prelude.{◌≡◌, ◌⊎◌, ◌<◌, ◌≤◌, ℕ, List, [], ◌∷◌, Some, slice_get}
use Rattle.jl_model.specs.declared.builtin.TheConstants.{INT64}
use Rattle.jl_model.specs.declared.ty.Key.{Key}
use Rattle.jl_model.specs.declared.ty.Ty.{Ty}
use Rattle.jl_model.specs.Ancestors.{named}
use Rattle.jl_program.specs.declared.prelude.TheConstants.{PRELUDE_SITES}
use Rattle.jl_task.specs.Knows.{Knows, IsMethod}
use Rattle.jl_task.specs.declared.numbers.NumberSite.{NumberSite}

-- the types of two numbers
abbrev pub two_numbers : List Ty
two_numbers = named INT64 ∷ named INT64 ∷ []

-- the operation of a site is chosen for a function and two numbers
pub record TakesNumbers (now : Knows) (f w site : ℕ) : Type 0 where
  pub low : site < PRELUDE_SITES
  pub statics : List Ty
  pub method : IsMethod now f two_numbers w site statics

-- what is kept is right: at the place of a function, the site that is chosen for two numbers
abbrev pub AreNumbers : Knows → List NumberSite → Type 0
AreNumbers k xs = (f : ℕ) (x : NumberSite) → slice_get xs f ≡ Some x → x.site < PRELUDE_SITES → TakesNumbers k f x.world x.site

-- no operation is kept
abbrev pub NoNumbers : List NumberSite → Type 0
NoNumbers xs = (f : ℕ) (x : NumberSite) → slice_get xs f ≡ Some x → PRELUDE_SITES ≤ x.site

-- this operation is kept for a function and a world
pub record IsNumber (xs : List NumberSite) (f w site : ℕ) : Type 0 where
  pub kept : NumberSite
  pub at : slice_get xs f ≡ Some kept
  pub world : kept.world ≡ w
  pub same : kept.site ≡ site
  pub low : site < PRELUDE_SITES

-- a call of two numbers, in this world with this site, is kept at the place of its function
pub record IsOfNumbers (key : Key) (w site f : ℕ) (x : NumberSite) : Type 0 where
  pub function : f ≡ key.function
  pub types : key.types ≡ two_numbers
  pub kept : x ≡ record { world = w; site = site }

-- what is kept then was kept before, or is this call's
abbrev pub IsNumberPut : Key → ℕ → ℕ → List NumberSite → List NumberSite → Type 0
IsNumberPut key w site old new = (f : ℕ) (x : NumberSite) → slice_get new f ≡ Some x → (slice_get old f ≡ Some x) ⊎ IsOfNumbers key w site f x
