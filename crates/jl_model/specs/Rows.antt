-- The rows of a signature.
use Rattle.std.specs.Prelude.{ℕ, ◌+◌, ◌*◌, ◌%◌, ◌/◌, ◌≡◌, ◌≤◌, Bool, true, false, cond, nat_eq, List, [], ◌∷◌, map, length, get_or}
use Rattle.std.specs.List.{flat_map, Contains}
use Rattle.jl_model.specs.declared.ty.Ty.{Ty}
use Rattle.jl_model.specs.declared.ty.Ty.TheOpen.{Ty-F, Any, Union, Tuple, Nominal, Var}
use Rattle.jl_model.specs.declared.ty.Ty.TheViews as V
use Rattle.jl_model.specs.declared.ty.Ty.TheVariants as W
use Rattle.jl_model.specs.declared.ty.Ty.TheFolds.{fold-Ty, para-Ty}
use Rattle.jl_model.specs.declared.ty.Bound.{Bound}
use Rattle.jl_model.specs.declared.ty.Written.{Written}
use Rattle.jl_model.specs.Kinds.{Places, Kind, unused, once, diagonal, bound, places, plus, plus_all, below_nominal, kind_of}

-- every list that takes one member of each
abbrev pub choices : List (List Ty) → List (List Ty)
choices [] = [] ∷ []
choices (ts ∷ tss) = flat_map (λ t. map (λ us. t ∷ us) (choices tss)) ts

-- the union-free forms of a type, where `at` says what stands at a covariant place of a variable
abbrev pub forms_step : (ℕ → List Ty) → Ty-F (Ty × List Ty) → List Ty
forms_step at Any = W.Any ∷ []
forms_step at (Union es) = flat_map (λ e. e.1) es
forms_step at (Tuple es) = map (λ us. V.Tuple us) (choices (map (λ e. e.1) es))
forms_step at (Nominal n es) = V.Nominal n (map (λ e. e.0) es) ∷ []
forms_step at (Var v) = at v

abbrev pub forms : (ℕ → List Ty) → Ty → List Ty
forms at = para-Ty (List Ty) (forms_step at)

-- the alternatives
abbrev pub alts : Ty → List Ty
alts = forms (λ v. W.Var v ∷ [])

abbrev pub width : Written → ℕ
width s = length s.vars

abbrev pub free : Bound
free = record { low = V.Union []; high = W.Any }

abbrev pub low : Written → ℕ → Ty
low s v = (get_or s.vars v free).low

abbrev pub high : Written → ℕ → Ty
high s v = (get_or s.vars v free).high

-- the places of a variable in the components, and in the bounds of the variables
abbrev pub part_places : Written → ℕ → Places
part_places s v = plus_all (map (places v) s.parts)

abbrev pub bound_places : ℕ → List Bound → Places
bound_places v bs = plus_all (map (λ b. plus (places v b.low) (places v b.high)) bs)

-- a place in a bound is an invariant one
abbrev pub kind : Written → ℕ → Kind
kind s v = kind_of (plus (part_places s v) (below_nominal (bound_places v s.vars)))

-- The atom (v, u), where u is alternative i of the upper bound of v, is the variable v + width * (i + 1).
abbrev pub atom : Written → ℕ → ℕ → ℕ
atom s v i = v + width s * (i + 1)

-- the variable of an atom, or of a variable
abbrev pub root : Written → ℕ → ℕ
root s n = n % width s

abbrev pub atoms : Written → ℕ → ℕ → List Ty → List Ty
atoms s v i [] = []
atoms s v i (u ∷ us) = W.Var (atom s v i) ∷ atoms s v (i + 1) us

-- what stands at a covariant place, by the kind
abbrev pub place_of : Written → ℕ → Kind → List Ty
place_of s v unused = []
place_of s v once = alts (high s v)
place_of s v diagonal = W.Var v ∷ []
place_of s v bound = atoms s v 0 (alts (high s v))

abbrev pub components : Written → List (List Ty)
components s = choices (map (forms (λ v. place_of s v (kind s v))) s.parts)

abbrev pub vars_step : Ty-F (List ℕ) → List ℕ
vars_step Any = []
vars_step (Union ns) = flat_map (λ n. n) ns
vars_step (Tuple ns) = flat_map (λ n. n) ns
vars_step (Nominal _ ns) = flat_map (λ n. n) ns
vars_step (Var v) = v ∷ []

abbrev pub vars_in : Ty → List ℕ
vars_in = fold-Ty (List ℕ) vars_step

-- the variable, or an atom of it, stands in a row
abbrev pub Stands : Written → ℕ → List Ty → Type 0
Stands s v row = Contains (map (root s) (flat_map vars_in row)) v

-- it is a variable of the row: it stands there, or in the bound of a variable of the row
pub data Occurs (s : Written) : ℕ → List Ty → Type 0 where
  standing : (v : ℕ) (row : List Ty) → Stands s v row → Occurs s v row
  bounding : (v w : ℕ) (row : List Ty) → Occurs s w row → Contains (vars_in (high s w)) v → Occurs s v row
