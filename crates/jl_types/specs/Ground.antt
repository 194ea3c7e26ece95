-- The types that are compared.
use Rattle.std.specs.Prelude.{ℕ, ◌≡◌, ◌≤◌, max, IsTrue, List, [], ◌∷◌, length}
use Rattle.std.specs.List.{list_all}
use Rattle.jl_model.specs.declared.ty.Ty.{Ty}
use Rattle.jl_model.specs.declared.ty.Ty.TheOpen.{Any, Tuple, Nominal, Var}
use Rattle.jl_model.specs.declared.ty.Ty.TheViews.{size-Ty, out-Ty}
use Rattle.jl_model.specs.declared.ty.Decl.{Decl}
use Rattle.jl_model.specs.Ancestors.{table_of}
use Rattle.jl_model.specs.Subtype.{Table, Equal}
use Rattle.jl_model.specs.Counts.{nodes}
use Rattle.jl_model.specs.Normal.{IsNormal, AllNormal, is_single}
use Rattle.jl_model.specs.Valid.{is_known}

-- a normal form whose nominal types are declared
pub record IsGround (ds : List Decl) (t : Ty) : Type 0 where
  pub normal : IsNormal (table_of ds) t
  pub known : IsTrue (is_known (length ds) t)

-- each of a list, and none is a union
pub record AreSingles (ds : List Decl) (ts : List Ty) : Type 0 where
  pub normal : AllNormal (table_of ds) ts
  pub known : IsTrue (list_all (is_known (length ds)) ts)
  pub single : IsTrue (list_all is_single ts)

-- it equals no other normal form of at most that many nodes than itself
abbrev pub Exact : Table → ℕ → Ty → Type 0
Exact n most t = (u : Ty) → IsNormal n u → nodes u ≤ most → Equal n t u → t ≡ u

abbrev pub AllExact : Table → ℕ → List Ty → Type 0
AllExact n most [] = Unit {0}
AllExact n most (t ∷ ts) = Exact n most t × AllExact n most ts

-- It is no union, no part of it is, and its arguments equal no other normal forms of at most that many nodes: a normal form,
-- or what would be one but for arguments that are too large.
module _ (n : Table) (most : ℕ) where
  mutual
    pub data IsLower : Ty → Type 0 where
      any : (t : Ty) → out-Ty t ≡ Any → IsLower t
      var : (t : Ty) (v : ℕ) → out-Ty t ≡ Var v → IsLower t
      nominal : (t : Ty) (k : ℕ) (xs : List Ty) → out-Ty t ≡ Nominal k xs → AllExact n most xs → IsLower t
      tuple : (t : Ty) (xs : List Ty) → out-Ty t ≡ Tuple xs → AllLower xs → IsLower t

    pub data AllLower : List Ty → Type 0 where
      none : AllLower []
      more : (t : Ty) (ts : List Ty) → IsLower t → AllLower ts → AllLower (t ∷ ts)

pub record Lower (ds : List Decl) (most : ℕ) (t : Ty) : Type 0 where
  pub form : IsLower (table_of ds) most t
  pub known : IsTrue (is_known (length ds) t)

pub record Lowers (ds : List Decl) (most : ℕ) (ts : List Ty) : Type 0 where
  pub form : AllLower (table_of ds) most ts
  pub known : IsTrue (list_all (is_known (length ds)) ts)

-- the size of the largest
abbrev pub tallest : List Ty → ℕ
tallest [] = 0
tallest (t ∷ ts) = max (size-Ty t) (tallest ts)
