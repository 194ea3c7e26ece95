-- The types that functions are asked with, the lists of them, and what is asked.
use Rattle.std.specs.Prelude.{ℕ, zero, suc, ◌+◌, ◌≡◌, ◌<◌, ◌≤◌, ◌⊎◌, Bool, ◌&&◌, cond, nat_eq, List, [], ◌∷◌, ◌++◌, map, length}
use Rattle.std.specs.List.{Contains, flat_map}
use Rattle.std.specs.List.Sorted.{IsStrictlySortedBy}
use Rattle.std.specs.Cmp.Lexicographic.{slice_cmp}
use Rattle.std.specs.declared.cmp.Ordering.TheVariants.{Less}
use Rattle.jl_model.specs.declared.builtin.TheConstants.{INT64, BOOL, NOTHING, TASK, BUILTIN_TYPES}
use Rattle.jl_model.specs.declared.ty.Decl.{Decl}
use Rattle.jl_model.specs.declared.ty.Key.{Key}
use Rattle.jl_model.specs.declared.ty.Ty.{Ty}
use Rattle.jl_model.specs.Ancestors.{named, is_struct_kind}
use Rattle.jl_model.specs.Order.{term_cmp}
use Rattle.jl_calculus.specs.declared.history.Event.{Event}
use Rattle.jl_calculus.specs.Definitions.{sig_of, IsStanding}
use Rattle.jl_calculus.specs.Ranges.{keys_of}
use Rattle.jl_calculus.specs.World.{world_of}
use Rattle.jl_ambig.specs.declared.probing.TheConstants.{MOST_PROBE_TYPES, MOST_COMPONENTS}
use Rattle.jl_program.specs.declared.tree.Program.{Program}
use Rattle.std.specs.Prelude.{slice_get, Some}

-- a struct without parameters
abbrev pub is_plain_struct : Decl → Bool
is_plain_struct d = is_struct_kind (Some d) && nat_eq (length d.params) 0

-- the structs without parameters among these declarations, which are numbered from here on
abbrev pub plain_structs : ℕ → List Decl → List Ty
plain_structs k [] = []
plain_structs k (d ∷ ds) = cond (is_plain_struct d) (named k ∷ plain_structs (k + 1) ds) (plain_structs (k + 1) ds)

-- the types to ask with: `Int64`, `Bool`, `Nothing`, `Task`, the structs without parameters, and those of the keys
abbrev pub candidates : Program → List Event → List Ty
candidates P es =
    ((named INT64 ∷ named BOOL ∷ named NOTHING ∷ named TASK ∷ []) ++ plain_structs BUILTIN_TYPES P.decls) ++ flat_map (λ (k : Key). k.types) (keys_of es)

-- the first 32 of some types, each once, in the order of terms: where one is left out there are 32, and all of them come before it
pub record AreFirst (all types : List Ty) : Type 0 where
  pub rises : IsStrictlySortedBy term_cmp types
  pub few : length types ≤ MOST_PROBE_TYPES
  pub each : (t : Ty) → Contains types t → Contains all t
  pub first : (t : Ty) → Contains all t → Contains types t ⊎ ((length types ≡ MOST_PROBE_TYPES) × ((u : Ty) → Contains types u → term_cmp u t ≡ Less))

-- the probe types of a history
abbrev pub AreProbeTypes : Program → List Event → List Ty → Type 0
AreProbeTypes P es types = AreFirst (candidates P es) types

-- a list with each of these at its end
abbrev pub with_each : List Ty → List Ty → List (List Ty)
with_each list types = map (λ (t : Ty). list ++ t ∷ []) types

-- each of some lists with each of these types at its end
abbrev pub longer : List (List Ty) → List Ty → List (List Ty)
longer lists types = flat_map (λ (list : List Ty). with_each list types) lists

-- all lists of so many of these types, in the order of a dictionary
abbrev pub lists_of : List Ty → ℕ → List (List Ty)
lists_of types zero = [] ∷ []
lists_of types (suc n) = longer (lists_of types n) types

-- a definition of a function that stands in the newest world has so many components
abbrev pub HasComponents : Program → List Event → ℕ → ℕ → Type 0
HasComponents P es f n = (d : _) × IsStanding P es f (world_of es) d × (length (sig_of (slice_get P.sites d.site)).parts ≡ n)

-- at most three of the probe types, as many as some standing definition of the function has components
pub record IsProbe (P : Program) (es : List Event) (types : List Ty) (f : ℕ) (ts : List Ty) : Type 0 where
  pub each : (t : Ty) → Contains ts t → Contains types t
  pub few : length ts ≤ MOST_COMPONENTS
  pub like : HasComponents P es f (length ts)

-- a list of types comes before another: it is shorter, or as long and the first type in which they differ comes before
abbrev pub IsEarlier : List Ty → List Ty → Type 0
IsEarlier us ts = (length us < length ts) ⊎ ((length us ≡ length ts) × (slice_cmp term_cmp us ts ≡ Less))
