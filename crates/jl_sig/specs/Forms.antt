-- The bounds and arguments of a signature in normal form.
use Rattle.std.specs.Prelude.{◌≡◌, ◌≤◌, true, false, IsTrue, List, [], ◌∷◌, map, length, get_or, slice_get}
use Rattle.std.specs.List.{list_all, Contains}
use Rattle.jl_model.specs.declared.limits.TheConstants.{MOST_TYPE_NODES}
use Rattle.jl_model.specs.declared.ty.Ty.{Ty}
use Rattle.jl_model.specs.declared.ty.Bound.{Bound}
use Rattle.jl_model.specs.declared.ty.Decl.{Decl}
use Rattle.jl_model.specs.Rows.{free}
use Rattle.jl_model.specs.Ancestors.{table_of}
use Rattle.jl_model.specs.Subtype.{opaque, Below}
use Rattle.jl_model.specs.Counts.{nodes, IsWithinLimits}
use Rattle.jl_model.specs.Normal.{IsNormalForm}
use Rattle.jl_model.specs.Valid.{is_known, is_closed, params_of}
use Rattle.jl_model.specs.Refusals.{Given, Between}
use Rattle.jl_types.specs.Form.{IsTooLarge, Settles}
use Rattle.jl_types.specs.Ground.{IsGround}

-- t is within the limits as it is written, and u is its normal form, and small
pub record IsSmallForm (ds : List Decl) (t u : Ty) : Type 0 where
  pub within : IsWithinLimits t
  pub form : IsNormalForm (table_of ds) t u
  pub small : nodes u ≤ MOST_TYPE_NODES
  pub known : IsTrue (is_known (length ds) u)

-- u stands for the bound t: its normal form, and small, where t has no variables, else t with the arguments of nominal types in normal form
pub record IsBoundForm (ds : List Decl) (t u : Ty) : Type 0 where
  pub form : IsNormalForm (table_of ds) t u
  pub known : IsTrue (is_known (length ds) u)
  pub small : IsTrue (is_closed t) → IsSmallForm ds t u
  pub named : is_closed t ≡ false → Settles (IsNormalForm (table_of ds)) t u

-- the lower bounds
abbrev pub lows : List Bound → List Ty
lows bs = map (λ b. b.low) bs

-- one of these without variables is too large for a normal form
abbrev pub HasTooLarge : List Decl → List Ty → Type 0
HasTooLarge ds ts = (t : Ty) × Contains ts t × (IsTrue (is_closed t) × IsTooLarge ds t)

-- the arguments without variables, in normal form, and no others
pub data AreFormed (ds : List Decl) : List Given → List Given → Type 0 where
  formed_end : AreFormed ds [] []
  formed_open : (a : Given) (gs hs : List Given) → is_closed a.ty ≡ false → AreFormed ds gs hs → AreFormed ds (a ∷ gs) hs
  formed_closed : (a : Given) (u : Ty) (gs hs : List Given) → is_closed a.ty ≡ true → IsSmallForm ds a.ty u → AreFormed ds gs hs → AreFormed ds (a ∷ gs) (record { of = a.of; place = a.place; ty = u } ∷ hs)

-- one of them without variables is too large for a normal form
abbrev pub HasTooLargeGiven : List Decl → List Given → Type 0
HasTooLargeGiven ds gs = (a : Given) × Contains gs a × (IsTrue (is_closed a.ty) × IsTooLarge ds a.ty)

-- the nominal types in each are declared
abbrev pub AreKnown : List Decl → List Given → Type 0
AreKnown ds gs = IsTrue (list_all (λ a. is_known (length ds) a.ty) gs)

-- a low bound is not below its high bound
abbrev pub HasCrossed : List Decl → List Bound → Type 0
HasCrossed ds bs = (b : Bound) × Contains bs b × (Below (table_of ds) opaque b.low b.high → ⊥)

abbrev pub AllGround : List Decl → List Bound → Type 0
AllGround ds [] = Unit {0}
AllGround ds (b ∷ bs) = IsGround ds b.low × IsGround ds b.high × AllGround ds bs

-- the declared bounds of an argument
abbrev pub declared_bound : List Decl → Given → Bound
declared_bound ds a = get_or (params_of (slice_get ds a.of)) a.place free

-- an argument is outside its declared bounds
abbrev pub HasOutside : List Decl → List Given → Type 0
HasOutside ds gs = (a : Given) × Contains gs a × (Between (table_of ds) (declared_bound ds a) a.ty → ⊥)
