-- The types found for the variables of a row, by one walk over its parts and the types below them.
use Rattle.std.specs.Prelude.{ℕ, ◌+◌, cond, nat_eq, List, [], ◌∷◌, ◌++◌, map, length, Option, None, Some}
use Rattle.std.specs.List.{flat_map}
use Rattle.jl_model.specs.declared.ty.Ty.{Ty}
use Rattle.jl_model.specs.declared.ty.Ty.TheOpen.{Ty-F, Any, Union, Tuple, Nominal, Var}
use Rattle.jl_model.specs.declared.ty.Ty.TheViews.{out-Ty}
use Rattle.jl_model.specs.declared.ty.Ty.TheVariants as W
use Rattle.jl_model.specs.declared.ty.Ty.TheFolds.{fold-Ty, para-Ty}
use Rattle.jl_model.specs.declared.ty.Bound.{Bound}
use Rattle.jl_model.specs.declared.ty.Written.{Written}
use Rattle.jl_model.specs.Rows.{alts, kind, atom, vars_in}
use Rattle.jl_model.specs.Signature.{Row, top, is_diagonal}
use Rattle.jl_model.specs.Subtype.{Table, Fixed, put, at, lifted}

abbrev pub or_else : Option Ty → Option Ty → Option Ty
or_else None b = b
or_else (Some a) _ = Some a

-- the first that a list of searches finds, one by one
abbrev pub first : List (Ty → Option Ty) → List Ty → Option Ty
first [] ts = None
first (f ∷ fs) [] = None
first (f ∷ fs) (t ∷ ts) = or_else (f t) (first fs ts)

-- a fixed variable stands for its upper bound
abbrev pub raised : Fixed → Ty-F Ty → Ty-F Ty
raised g (Var v) = out-Ty (g.high v)
raised g Any = Any
raised g (Union ts) = Union ts
raised g (Tuple ts) = Tuple ts
raised g (Nominal k ts) = Nominal k ts

abbrev pub parts_of : Ty-F Ty → List Ty
parts_of (Tuple ts) = ts
parts_of _ = []

abbrev pub arguments_of : Ty-F Ty → List Ty
arguments_of (Nominal _ ts) = ts
arguments_of _ = []

abbrev pub or_none : Option (List Ty) → List Ty
or_none None = []
or_none (Some zs) = zs

-- the arguments of the ancestor m, or of the type itself
abbrev pub ancestor : Table → ℕ → Ty-F Ty → List Ty
ancestor n m (Nominal k xs) = or_none (lifted n k xs m)
ancestor n m _ = []

abbrev pub find_arg_step : ℕ → Ty-F (Ty → Option Ty) → Ty → Option Ty
find_arg_step v (Nominal _ fs) t = first fs (arguments_of (out-Ty t))
find_arg_step v (Var w) t = cond (nat_eq v w) (Some t) None
find_arg_step v _ t = None

-- what stands in an argument at the first place of variable v
abbrev pub find_arg : ℕ → Ty → Ty → Option Ty
find_arg v = fold-Ty (Ty → Option Ty) (find_arg_step v)

module _ (n : Table) (g : Fixed) where
  abbrev pub find_inner_step : ℕ → Ty-F (Ty × (Ty → Option Ty)) → Ty → Option Ty
  find_inner_step v (Tuple es) t = first (map (λ e. e.1) es) (parts_of (raised g (out-Ty t)))
  find_inner_step v (Nominal m es) t = first (map (λ e. find_arg v e.0) es) (ancestor n m (raised g (out-Ty t)))
  find_inner_step v _ t = None

  -- at the first invariant place of v in a part of a row
  abbrev pub find_inner : ℕ → Ty → Ty → Option Ty
  find_inner v = para-Ty (Ty → Option Ty) (find_inner_step v)

module _ (g : Fixed) where
  abbrev pub find_outer_step : ℕ → Ty-F (Ty → Option Ty) → Ty → Option Ty
  find_outer_step v (Tuple fs) t = first fs (parts_of (raised g (out-Ty t)))
  find_outer_step v (Var w) t = cond (nat_eq v w) (Some t) None
  find_outer_step v _ t = None

  -- at the first covariant place of a diagonal variable
  abbrev pub find_outer : ℕ → Ty → Ty → Option Ty
  find_outer v = fold-Ty (Ty → Option Ty) (find_outer_step v)

abbrev pub outer_step : Ty-F (List ℕ) → List ℕ
outer_step (Tuple ns) = flat_map (λ n. n) ns
outer_step (Var v) = v ∷ []
outer_step _ = []

-- the variables and atoms at covariant places of a part of a row
abbrev pub outer : Ty → List ℕ
outer = fold-Ty (List ℕ) outer_step

abbrev pub inner_step : Ty-F (Ty × List ℕ) → List ℕ
inner_step (Tuple es) = flat_map (λ e. e.1) es
inner_step (Nominal _ es) = flat_map (λ e. vars_in e.0) es
inner_step _ = []

-- the variables at invariant places
abbrev pub inner : Ty → List ℕ
inner = para-Ty (List ℕ) inner_step

abbrev pub or_type : Option Ty → Ty → Ty
or_type None u = u
or_type (Some t) u = t

-- a type, or of a fixed variable its upper bound
abbrev pub risen_form : Fixed → Ty → Ty-F Ty → Ty
risen_form g t (Var v) = g.high v
risen_form g t _ = t

abbrev pub risen : Fixed → Ty → Ty
risen g t = risen_form g t (out-Ty t)

-- the alternatives of a type, where each fixed variable among them stands for the alternatives of its upper bound
abbrev pub rising : Fixed → Ty → List Ty
rising g t = flat_map (λ a. alts (risen g a)) (alts t)

-- the first of some alternatives
abbrev pub first_form : List Ty → Ty-F Ty
first_form [] = Union []
first_form (t ∷ ts) = out-Ty t

-- What stands at the first place of v in an upper bound, where t is below this bound with types put in. A bound with variables is
-- a nominal type, and each alternative of t is below it: the first one tells.
abbrev pub find_bound_form : Table → Fixed → ℕ → Ty-F Ty → Ty → Option Ty
find_bound_form n g v (Nominal m us) t = first (map (find_arg v) us) (ancestor n m (first_form (rising g t)))
find_bound_form n g v _ t = None

abbrev pub find_bound : Table → Fixed → ℕ → Ty → Ty → Option Ty
find_bound n g v u t = find_bound_form n g v (out-Ty u) t

-- the search goes on with a type, if there is one
abbrev pub then_find : (Ty → Option Ty) → Option Ty → Option Ty
then_find f None = None
then_find f (Some t) = f t

module _ (n : Table) (g : Fixed) (s : Written) (r : Row) (ts : List Ty) where
  -- the left part at the first atom of w, where its upper bound is a nominal type
  abbrev pub at_atom : ℕ → Option Ty
  at_atom w = first (map (find_outer g (atom s w 0)) r.parts) ts

  -- what is known to be below the upper bound of w: its type, else the left part at its first atom
  abbrev pub witness : ℕ → Option Ty → Option Ty
  witness w o = or_else o (at_atom w)

  -- at the first place of v in the bounds of the variables from w on, where `os` has what is found for these
  abbrev pub in_bounds : ℕ → ℕ → List Bound → List (Option Ty) → Option Ty
  in_bounds v w [] os = None
  in_bounds v w (b ∷ bs) [] = None
  in_bounds v w (b ∷ bs) (o ∷ os) = or_else (then_find (find_bound n g v b.high) (witness w o)) (in_bounds v (w + 1) bs os)

  -- at the first place of v: of a diagonal variable at a covariant one, else at an invariant one of the row or of a later bound
  abbrev pub hit : ℕ → List Bound → List (Option Ty) → Option Ty
  hit v bs os =
      cond (is_diagonal (kind s v)) (first (map (find_outer g v) r.parts) ts)
      (or_else (first (map (find_inner n g v) r.parts) ts) (in_bounds v (v + 1) bs os))

  -- what is found for the variables from v on, the last of them first, since a bound mentions only variables before its own
  abbrev pub hits : ℕ → List Bound → List (Option Ty)
  hits v [] = []
  hits v (b ∷ bs) = hit v bs (hits (v + 1) bs) ∷ hits (v + 1) bs

  -- the types of the variables: `done` has those of the first ones, and where nothing is found for the next it takes its upper bound
  -- with these put in
  abbrev pub filled : List Ty → List (Option Ty) → List Ty
  filled done [] = done
  filled done (o ∷ os) = filled (done ++ or_type o (put (at done) (top s r (length done))) ∷ []) os

-- The type found for a variable of the row r of s against the types ts: of a diagonal one what stands at its first place,
-- of another one what stands at its first invariant place in the row or in a bound, and where nothing is found its upper bound.
abbrev pub found : Table → Fixed → Written → Row → List Ty → ℕ → Ty
found n g s r ts = at (filled n g s r ts [] (hits n g s r ts 0 s.vars))
