-- Normal forms: one type for each class of equal types.
use Rattle.std.specs.Prelude.{ℕ, ◌≡◌, Bool, true, false, IsTrue, List, [], ◌∷◌, length}
use Rattle.std.specs.List.{list_all}
use Rattle.std.specs.declared.cmp.Ordering.TheVariants.{Less}
use Rattle.jl_model.specs.declared.ty.Ty.{Ty}
use Rattle.jl_model.specs.declared.ty.Ty.TheOpen.{Ty-F, Any, Union, Tuple, Nominal, Var}
use Rattle.jl_model.specs.declared.ty.Ty.TheViews.{out-Ty}
use Rattle.jl_model.specs.Subtype.{Table, opaque, Below, Equal}
use Rattle.jl_model.specs.Order.{term_cmp}

abbrev pub no_union : Ty-F Ty → Bool
no_union (Union _) = false
no_union _ = true

-- the type is no union
abbrev pub is_single : Ty → Bool
is_single t = no_union (out-Ty t)

-- neither is below the other
abbrev pub Unrelated : Table → Ty → Ty → Type 0
Unrelated n t u = (Below n opaque t u → ⊥) × (Below n opaque u t → ⊥)

-- a member stands before each of these, and is unrelated to it
abbrev pub Leads : Table → Ty → List Ty → Type 0
Leads n t [] = Unit {0}
Leads n t (u ∷ us) = (term_cmp t u ≡ Less) × Unrelated n t u × Leads n t us

-- the members stand in the order of terms, and none is below another
abbrev pub Members : Table → List Ty → Type 0
Members n [] = Unit {0}
Members n (t ∷ ts) = Leads n t ts × Members n ts

-- Parts and arguments are normal. No part of a tuple is a union. A union has no union as a member, its members stand in
-- order and are unrelated, and it has not just one. A variable stands for itself.
module _ (n : Table) where
  mutual
    pub data IsNormal : Ty → Type 0 where
      any : (t : Ty) → out-Ty t ≡ Any → IsNormal t
      var : (t : Ty) (v : ℕ) → out-Ty t ≡ Var v → IsNormal t
      nominal : (t : Ty) (k : ℕ) (xs : List Ty) → out-Ty t ≡ Nominal k xs → AllNormal xs → IsNormal t
      tuple : (t : Ty) (xs : List Ty) → out-Ty t ≡ Tuple xs → AllNormal xs → IsTrue (list_all is_single xs) → IsNormal t
      union : (t : Ty) (ts : List Ty) → out-Ty t ≡ Union ts → AllNormal ts → IsTrue (list_all is_single ts) → Members n ts
          → (length ts ≡ 1 → ⊥) → IsNormal t

    pub data AllNormal : List Ty → Type 0 where
      none : AllNormal []
      more : (t : Ty) (ts : List Ty) → IsNormal t → AllNormal ts → AllNormal (t ∷ ts)

-- u is the normal form of t
pub record IsNormalForm (n : Table) (t u : Ty) : Type 0 where
  pub normal : IsNormal n u
  pub equal : Equal n t u
