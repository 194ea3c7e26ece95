-- What a type becomes on the way to its normal form.
use Rattle.std.specs.Prelude.{ℕ, ◌≡◌, ◌≤◌, ◌<◌, ◌⊎◌, Bool, true, List, [], ◌∷◌, length}
use Rattle.std.specs.List.{list_all}
use Rattle.std.specs.List.Sorted.{IsPermutation, IsSorted}
use Rattle.jl_model.specs.declared.limits.TheConstants.{MOST_TYPE_NODES}
use Rattle.jl_model.specs.declared.ty.Ty.{Ty}
use Rattle.jl_model.specs.declared.ty.Ty.TheOpen.{Any, Union, Tuple, Nominal, Var}
use Rattle.jl_model.specs.declared.ty.Ty.TheViews.{out-Ty}
use Rattle.jl_model.specs.declared.ty.Ty.TheViews as V
use Rattle.jl_model.specs.declared.ty.Decl.{Decl}
use Rattle.jl_model.specs.Ancestors.{table_of}
use Rattle.jl_model.specs.Signature.{Both}
use Rattle.jl_model.specs.Subtype.{Equal}
use Rattle.jl_model.specs.Counts.{nodes, raw, IsWithinLimits}
use Rattle.jl_model.specs.Order.{term_cmp}
use Rattle.jl_model.specs.Normal.{IsNormal, IsNormalForm}
use Rattle.jl_model.specs.Kept.{Settled}
use Rattle.jl_model.specs.Refusals.{table_with, is_free_of}

-- A test that a union or a tuple passes where its parts do. Of a nominal type that passes the arguments do, and it passes
-- with as many others that do.
pub record IsOfParts (p : Ty → Bool) : Type 0 where
  pub union_is : (ts : List Ty) → p (V.Union ts) ≡ list_all p ts
  pub tuple_is : (ts : List Ty) → p (V.Tuple ts) ≡ list_all p ts
  pub arguments : (k : ℕ) (ts : List Ty) → p (V.Nominal k ts) ≡ true → list_all p ts ≡ true
  pub others : (k : ℕ) (ts us : List Ty) → p (V.Nominal k ts) ≡ true → length us ≡ length ts → list_all p us ≡ true → p (V.Nominal k us) ≡ true

-- u equals t. Where it has at most 1,024 nodes it is the normal form; where it has more, so has every normal form of t.
-- No part of it has more raw alternatives than t or a part of t.
pub record Formed (ds : List Decl) (t u : Ty) : Type 0 where
  pub equal : Equal (table_of ds) t u
  pub normal : nodes u ≤ MOST_TYPE_NODES → IsNormal (table_of ds) u
  pub large : MOST_TYPE_NODES < nodes u → (v : Ty) → IsNormal (table_of ds) v → Equal (table_of ds) t v → MOST_TYPE_NODES < nodes v
  pub kept : (p : Ty → Bool) → IsOfParts p → p t ≡ true → p u ≡ true
  pub narrow : (raw u).widest ≤ (raw t).widest

-- the arguments of nominal types become what F says, and all else is as written
module _ (F : Ty → Ty → Type 0) where
  mutual
    pub data Settles : Ty → Ty → Type 0 where
      any : (t : Ty) → out-Ty t ≡ Any → Settles t t
      var : (t : Ty) (v : ℕ) → out-Ty t ≡ Var v → Settles t t
      union : (t u : Ty) (ts us : List Ty) → out-Ty t ≡ Union ts → out-Ty u ≡ Union us → AllSettle ts us → Settles t u
      tuple : (t u : Ty) (ts us : List Ty) → out-Ty t ≡ Tuple ts → out-Ty u ≡ Tuple us → AllSettle ts us → Settles t u
      nominal : (t u : Ty) (k : ℕ) (ts us : List Ty) → out-Ty t ≡ Nominal k ts → out-Ty u ≡ Nominal k us → Both F ts us → Settles t u

    pub data AllSettle : List Ty → List Ty → Type 0 where
      none : AllSettle [] []
      more : (t u : Ty) (ts us : List Ty) → Settles t u → AllSettle ts us → AllSettle (t ∷ ts) (u ∷ us)

-- each has at most 1,024 nodes
abbrev pub AllSmall : List Ty → Type 0
AllSmall [] = Unit {0}
AllSmall (t ∷ ts) = (nodes t ≤ MOST_TYPE_NODES) × AllSmall ts

-- one has more
abbrev pub HasLarge : List Ty → Type 0
HasLarge [] = ⊥
HasLarge (t ∷ ts) = (MOST_TYPE_NODES < nodes t) ⊎ HasLarge ts

-- the type of these members: a single one is itself, and others stand in a union, in order where all are small
pub data Gathers (ts : List Ty) : Ty → Type 0 where
  one : (t : Ty) → ts ≡ t ∷ [] → Gathers ts t
  large : HasLarge ts → Gathers ts (V.Union ts)
  ordered : (us : List Ty) → (length ts ≡ 1 → ⊥) → AllSmall ts → IsPermutation ts us → IsSorted term_cmp us → Gathers ts (V.Union us)

-- a limit is passed: as written, or by each normal form
abbrev pub IsTooLarge : List Decl → Ty → Type 0
IsTooLarge ds t = (IsWithinLimits t → ⊥) ⊎ ((u : Ty) → IsNormalForm (table_of ds) t u → MOST_TYPE_NODES < nodes u)

-- What an argument of a declaration becomes whose own number is that of the table's next type: its form where neither a
-- variable nor this type stands in it, else as written but for such arguments.
module _ (ds : List Decl) where
  mutual
    pub data Keeps : Ty → Ty → Type 0 where
      free : (t u : Ty) → is_free_of (length ds) t ≡ true → Formed ds t u → Keeps t u
      variable : (t : Ty) (v : ℕ) → out-Ty t ≡ Var v → Keeps t t
      applied : (t u : Ty) (k : ℕ) (ts us : List Ty) → out-Ty t ≡ Nominal k ts → out-Ty u ≡ Nominal k us → AllKeep ts us → Keeps t u

    pub data AllKeep : List Ty → List Ty → Type 0 where
      keep_end : AllKeep [] []
      keep_more : (t u : Ty) (ts us : List Ty) → Keeps t u → AllKeep ts us → AllKeep (t ∷ ts) (u ∷ us)

-- a limit is passed: as written, or as kept by whatever is declared next
abbrev pub IsKeptTooLarge : List Decl → Ty → Type 0
IsKeptTooLarge ds t = (IsWithinLimits t → ⊥) ⊎ ((d : Decl) → (u : Ty) × Settled (table_with ds d) t u × (IsWithinLimits u → ⊥))
