-- Applicable, and signature below signature.
use Rattle.std.specs.Prelude.{ℕ, ◌+◌, ◌-◌, ◌%◌, ◌/◌, ◌≡◌, ◌<◌, Bool, true, false, cond, nat_lt, IsTrue, List, [], ◌∷◌, map, Option, None, Some, get_or}
use Rattle.std.specs.List.{Contains}
use Rattle.jl_model.specs.declared.ty.Ty.{Ty}
use Rattle.jl_model.specs.declared.ty.Ty.TheOpen.{Ty-F, Any, Union, Tuple, Nominal, Var}
use Rattle.jl_model.specs.declared.ty.Ty.TheViews.{out-Ty}
use Rattle.jl_model.specs.declared.ty.Ty.TheViews as V
use Rattle.jl_model.specs.declared.ty.Ty.TheVariants as W
use Rattle.jl_model.specs.declared.ty.Written.{Written}
use Rattle.jl_model.specs.Kinds.{Kind, unused, once, diagonal, bound}
use Rattle.jl_model.specs.Rows.{alts, width, low, high, kind, root, components, vars_in, Stands, Occurs}
use Rattle.jl_model.specs.Subtype.{Table, Fixed, opaque, put, lifted, Below, Equals, Equal, is_concrete}

pub record Row : Type 0 where
  pub parts : List Ty
  -- the alternative of the upper bound that a diagonal variable takes
  pub chosen : ℕ → Ty

pub record IsRow (n : Table) (s : Written) (r : Row) : Type 0 where
  pub parts : Contains (components s) r.parts
  -- a diagonal variable stands in no bound
  pub chosen : (v : ℕ) → kind s v ≡ diagonal → Stands s v r.parts → Contains (alts (high s v)) (r.chosen v) × Below n opaque (low s v) (r.chosen v)
  -- what stands for the other variables is of no account
  pub other : (v : ℕ) → (Stands s v r.parts → ⊥) → r.chosen v ≡ W.Any

abbrev pub by_kind : Kind → Ty → Ty → Ty
by_kind diagonal t u = t
by_kind _ t u = u

-- the upper bound of a variable in a row
abbrev pub top : Written → Row → ℕ → Ty
top s r v = by_kind (kind s v) (r.chosen v) (high s v)

-- each variable of the row lies between its bounds, and each diagonal one is concrete
pub record Serves (n : Table) (g : Fixed) (s : Written) (r : Row) (f : ℕ → Ty) : Type 0 where
  pub least : (v : ℕ) → Occurs s v r.parts → Below n g (put f (low s v)) (f v)
  pub most : (v : ℕ) → Occurs s v r.parts → Below n g (f v) (put f (top s r v))
  pub sure : (v : ℕ) → Occurs s v r.parts → kind s v ≡ diagonal → IsTrue (is_concrete n g (f v))

-- one by one
pub data Both (P : Ty → Ty → Type 0) : List Ty → List Ty → Type 0 where
  both_end : Both P [] []
  both_more : (x y : Ty) (xs ys : List Ty) → P x y → Both P xs ys → Both P (x ∷ xs) (y ∷ ys)

-- the types are below the signature
abbrev pub Applicable : Table → Written → List Ty → Type 0
Applicable n s ts =
    (r : Row) × (f : ℕ → Ty) × IsRow n s r × Serves n opaque s r f × ((v : ℕ) → vars_in (f v) ≡ [])
    × Both (λ t u. Below n opaque t (put (λ v. f (root s v)) u)) ts r.parts

-- alternative i + 1 of a bound for an atom, the whole of it for a variable
abbrev pub fixed_high : Written → Row → ℕ → Ty
fixed_high s r k = cond (nat_lt k (width s)) (top s r k) (get_or (alts (high s (root s k))) (k / width s - 1) W.Any)

abbrev pub is_diagonal : Kind → Bool
is_diagonal diagonal = true
is_diagonal _ = false

-- the variables of a left row, held fixed
abbrev pub fixed : Written → Row → Fixed
fixed s r = record { low = λ k. cond (nat_lt k (width s)) (low s k) (V.Union []); high = fixed_high s r; root = root s; sure = λ k. is_diagonal (kind s k) }

module _ (n : Table) (g : Fixed) (s : Written) (f : ℕ → Ty) where
  mutual
    -- a part of a left row is below a part of a right row of s, with f put in
    pub data Meets : Ty → Ty → Type 0 where
      any : (t u : Ty) → out-Ty u ≡ Any → Meets t u
      tuple : (t u : Ty) (xs ys : List Ty) → out-Ty t ≡ Tuple xs → out-Ty u ≡ Tuple ys → Meet xs ys → Meets t u
      nominal : (t u : Ty) (k m : ℕ) (xs zs ys : List Ty) → out-Ty t ≡ Nominal k xs → out-Ty u ≡ Nominal m ys
          → lifted n k xs m ≡ Some zs → Equals n zs (map (put f) ys) → Meets t u
      -- at a diagonal variable, equal
      same : (t u : Ty) (v : ℕ) → out-Ty u ≡ Var v → kind s v ≡ diagonal → Equal n t (f v) → Meets t u
      -- at an atom, below
      atom : (t u : Ty) (v : ℕ) → out-Ty u ≡ Var v → kind s (root s v) ≡ bound → Below n g t (f (root s v)) → Meets t u
      -- a fixed variable is below what its upper bound is below
      raise_tuple : (t u : Ty) (v : ℕ) (ys : List Ty) → out-Ty t ≡ Var v → out-Ty u ≡ Tuple ys → Meets (g.high v) u → Meets t u
      raise_nominal : (t u : Ty) (v m : ℕ) (ys : List Ty) → out-Ty t ≡ Var v → out-Ty u ≡ Nominal m ys → Meets (g.high v) u → Meets t u

    pub data Meet : List Ty → List Ty → Type 0 where
      meet_end : Meet [] []
      meet_more : (x y : Ty) (xs ys : List Ty) → Meets x y → Meet xs ys → Meet (x ∷ xs) (y ∷ ys)

-- a left row is below a right row
abbrev pub RowBelow : Table → Written → Row → Written → Row → Type 0
RowBelow n a l b r =
    (f : ℕ → Ty) × Serves n (fixed a l) b r f × ((v w : ℕ) → Contains (vars_in (f v)) w → Occurs a w l.parts) × Meet n (fixed a l) b f l.parts r.parts

abbrev pub SigBelow : Table → Written → Written → Type 0
SigBelow n a b = (l : Row) → IsRow n a l → (r : Row) × IsRow n b r × RowBelow n a l b r

-- below, and not the reverse
abbrev pub StrictlyBelow : Table → Written → Written → Type 0
StrictlyBelow n a b = SigBelow n a b × (SigBelow n b a → ⊥)

-- below both ways
abbrev pub SameSignature : Table → Written → Written → Type 0
SameSignature n a b = SigBelow n a b × SigBelow n b a
