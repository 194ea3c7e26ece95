-- Below and equal, for types over fixed variables. For types without variables this is the plain order of types.
use Rattle.std.specs.Prelude.{ℕ, ◌≡◌, Bool, true, false, ◌&&◌, cond, nat_eq, List, [], ◌∷◌, map, Option, None, Some, get_or}
use Rattle.std.specs.List.{list_all}
use Rattle.jl_model.specs.declared.ty.Ty.{Ty}
use Rattle.jl_model.specs.declared.ty.Ty.TheOpen.{Ty-F, Any, Union, Tuple, Nominal, Var}
use Rattle.jl_model.specs.declared.ty.Ty.TheViews.{out-Ty, roll-Ty}
use Rattle.jl_model.specs.declared.ty.Ty.TheViews as V
use Rattle.jl_model.specs.declared.ty.Ty.TheVariants as W
use Rattle.jl_model.specs.declared.ty.Ty.TheFolds.{fold-Ty}
use Rattle.jl_model.specs.Rows.{alts}

-- what the order asks of a table
pub record Table : Type 0 where
  -- the arguments of an ancestor, over the parameters of a type
  pub up : ℕ → ℕ → Option (List Ty)
  pub is_struct : ℕ → Bool

-- what is known of the fixed variables and their atoms
pub record Fixed : Type 0 where
  pub low : ℕ → Ty
  pub high : ℕ → Ty
  pub root : ℕ → ℕ
  pub sure : ℕ → Bool

-- nothing is known of them
abbrev pub opaque : Fixed
opaque = record { low = λ v. V.Union []; high = λ v. W.Any; root = λ v. v; sure = λ v. false }

abbrev pub put_step : (ℕ → Ty) → Ty-F Ty → Ty
put_step f Any = W.Any
put_step f (Union ts) = V.Union ts
put_step f (Tuple ts) = V.Tuple ts
put_step f (Nominal n ts) = V.Nominal n ts
put_step f (Var v) = f v

-- a type with types put for its variables
abbrev pub put : (ℕ → Ty) → Ty → Ty
put f = fold-Ty Ty (put_step f)

-- the types of a list, for the parameters of an ancestor
abbrev pub at : List Ty → ℕ → Ty
at xs i = get_or xs i W.Any

abbrev pub put_in : List Ty → Option (List Ty) → Option (List Ty)
put_in xs None = None
put_in xs (Some zs) = Some (map (put (at xs)) zs)

-- the arguments of k{xs}, or of its ancestor m
abbrev pub lifted : Table → ℕ → List Ty → ℕ → Option (List Ty)
lifted n k xs m = cond (nat_eq k m) (Some xs) (put_in xs (n.up k m))

module _ (n : Table) where
  mutual
    -- each alternative of t is below one of u
    pub data Below : Fixed → Ty → Ty → Type 0 where
      below : (g : Fixed) (t u : Ty) → Covered g (alts t) (alts u) → Below g t u

    pub data Covered : Fixed → List Ty → List Ty → Type 0 where
      none : (g : Fixed) (us : List Ty) → Covered g [] us
      more : (g : Fixed) (t : Ty) (ts us : List Ty) → Found g t us → Covered g ts us → Covered g (t ∷ ts) us

    pub data Found : Fixed → Ty → List Ty → Type 0 where
      here : (g : Fixed) (t u : Ty) (us : List Ty) → Part g t u → Found g t (u ∷ us)
      there : (g : Fixed) (t u : Ty) (us : List Ty) → Found g t us → Found g t (u ∷ us)
      -- a variable is below what its upper bound is below
      raise : (g : Fixed) (t : Ty) (v : ℕ) (us : List Ty) → out-Ty t ≡ Var v → Covered g (alts (g.high v)) us → Found g t us

    pub data Part : Fixed → Ty → Ty → Type 0 where
      any : (g : Fixed) (t u : Ty) → out-Ty u ≡ Any → Part g t u
      tuple : (g : Fixed) (t u : Ty) (xs ys : List Ty) → out-Ty t ≡ Tuple xs → out-Ty u ≡ Tuple ys → Parts g xs ys → Part g t u
      nominal : (g : Fixed) (t u : Ty) (k m : ℕ) (xs zs ys : List Ty) → out-Ty t ≡ Nominal k xs → out-Ty u ≡ Nominal m ys
          → lifted n k xs m ≡ Some zs → Equals zs ys → Part g t u
      -- a variable is below itself, and so is an atom
      self : (g : Fixed) (t u : Ty) (v : ℕ) → out-Ty t ≡ Var v → out-Ty u ≡ Var v → Part g t u
      -- an atom is below its variable
      own : (g : Fixed) (t u : Ty) (v : ℕ) → out-Ty t ≡ Var v → out-Ty u ≡ Var (g.root v) → Part g t u
      -- what is below the lower bound is below the variable
      under : (g : Fixed) (t u : Ty) (w : ℕ) → out-Ty u ≡ Var w → Below g t (g.low w) → Part g t u

    pub data Parts : Fixed → List Ty → List Ty → Type 0 where
      parts_end : (g : Fixed) → Parts g [] []
      parts_more : (g : Fixed) (x y : Ty) (xs ys : List Ty) → Below g x y → Parts g xs ys → Parts g (x ∷ xs) (y ∷ ys)

    -- a variable equals itself alone
    pub data Equals : List Ty → List Ty → Type 0 where
      equals_end : Equals [] []
      equals_more : (x y : Ty) (xs ys : List Ty) → Below opaque x y → Below opaque y x → Equals xs ys → Equals (x ∷ xs) (y ∷ ys)

abbrev pub Equal : Table → Ty → Ty → Type 0
Equal n t u = Below n opaque t u × Below n opaque u t

abbrev pub concrete_step : Table → Fixed → Ty-F Bool → Bool
concrete_step n g Any = false
concrete_step n g (Union _) = false
concrete_step n g (Tuple bs) = list_all (λ b. b) bs
concrete_step n g (Nominal k _) = n.is_struct k
concrete_step n g (Var v) = g.sure v

abbrev pub is_concrete : Table → Fixed → Ty → Bool
is_concrete n g = fold-Ty Bool (concrete_step n g)
