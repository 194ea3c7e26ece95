-- All rows of a signature, one after another.
use Rattle.std.specs.Prelude.{ℕ, ◌+◌, ◌≡◌, Bool, true, false, ◌&&◌, cond, nat_eq, List, [], ◌∷◌, map}
use Rattle.std.specs.List.{flat_map, list_any}
use Rattle.jl_model.specs.declared.ty.Ty.{Ty}
use Rattle.jl_model.specs.declared.ty.Ty.TheVariants as W
use Rattle.jl_model.specs.declared.ty.Bound.{Bound}
use Rattle.jl_model.specs.declared.ty.Written.{Written}
use Rattle.jl_model.specs.Kinds.{diagonal}
use Rattle.jl_model.specs.Rows.{alts, choices, low, high, kind, root, components, vars_in}
use Rattle.jl_model.specs.Subtype.{Table, opaque, Below}
use Rattle.jl_model.specs.Signature.{is_diagonal}

-- those of a list that t is below
pub data Above (n : Table) (t : Ty) : List Ty → List Ty → Type 0 where
  above_end : Above n t [] []
  taken : (u : Ty) (us vs : List Ty) → Below n opaque t u → Above n t us vs → Above n t (u ∷ us) (u ∷ vs)
  passed : (u : Ty) (us vs : List Ty) → (Below n opaque t u → ⊥) → Above n t us vs → Above n t (u ∷ us) vs

-- what each diagonal variable may take as its bound: the alternatives of its upper bound that its lower bound is below
abbrev pub ArePicks : Table → Written → (ℕ → List Ty) → Type 0
ArePicks n s picks = (v : ℕ) → kind s v ≡ diagonal → Above n (low s v) (alts (high s v)) (picks v)

-- the variable, or an atom of it, stands in a row
abbrev pub occurs : Written → ℕ → List Ty → Bool
occurs s v row = list_any (nat_eq v) (map (root s) (flat_map vars_in row))

-- a diagonal variable that occurs takes one of its picks, and what stands for another is of no account
abbrev pub slot : Written → (ℕ → List Ty) → List Ty → ℕ → List Ty
slot s picks row v = cond (is_diagonal (kind s v) && occurs s v row) (picks v) (W.Any ∷ [])

-- f at each variable, from i on
abbrev pub each_var : {A : Type 0} → (ℕ → A) → ℕ → List Bound → List A
each_var f i [] = []
each_var f i (b ∷ bs) = f i ∷ each_var f (i + 1) bs

-- a row: its parts, and for each variable what it takes
pub record Listed : Type 0 where
  pub parts : List Ty
  pub chosen : List Ty

-- the rows with these parts
abbrev pub rows_with : Written → (ℕ → List Ty) → List Ty → List Listed
rows_with s picks row = map (λ us. record { parts = row; chosen = us }) (choices (each_var (slot s picks row) 0 s.vars))

-- every choice of parts, and with it every choice for the diagonal variables in it
abbrev pub all_rows : Written → (ℕ → List Ty) → List Listed
all_rows s picks = flat_map (rows_with s picks) (components s)
