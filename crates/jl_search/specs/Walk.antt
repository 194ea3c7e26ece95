-- How a walk lists what it finds for the variables of a row: beside the types found it keeps, for each upper bound that mentions
-- variables, the arguments in which the variables of this bound are found.
use Rattle.std.specs.Prelude.{ℕ, ◌+◌, ◌≡◌, List, [], ◌∷◌, map, Option, None}
use Rattle.jl_model.specs.declared.ty.Ty.{Ty}
use Rattle.jl_model.specs.declared.ty.Ty.TheViews.{out-Ty}
use Rattle.jl_model.specs.declared.ty.Bound.{Bound}
use Rattle.jl_model.specs.declared.ty.Written.{Written}
use Rattle.jl_model.specs.Signature.{Row}
use Rattle.jl_model.specs.Subtype.{Table, Fixed}
use Rattle.jl_model.specs.Found.{first, find_arg, find_bound, arguments_of, or_else, then_find, witness}

-- what stands at the first place of v in some bounds, of which each list has the arguments
abbrev pub in_above : ℕ → List Bound → List (List Ty) → Option Ty
in_above v [] zss = None
in_above v (b ∷ bs) [] = None
in_above v (b ∷ bs) (zs ∷ zss) = or_else (first (map (find_arg v) (arguments_of (out-Ty b.high))) zs) (in_above v bs zss)

module _ (n : Table) (g : Fixed) (s : Written) (r : Row) (ts : List Ty) where
  -- in zs is found what stands in the upper bound u of w, where o is found for w
  abbrev pub TellsBound : ℕ → Ty → Option Ty → List Ty → Type 0
  TellsBound w u o zs = (v : ℕ) → first (map (find_arg v) (arguments_of (out-Ty u))) zs ≡ then_find (find_bound n g v u) (witness n g s r ts w o)

  -- the same of the variables from w on, one by one
  abbrev pub TellBounds : ℕ → List Bound → List (Option Ty) → List (List Ty) → Type 0
  TellBounds w [] os zss = Unit {0}
  TellBounds w (b ∷ bs) [] zss = ⊥
  TellBounds w (b ∷ bs) (o ∷ os) [] = ⊥
  TellBounds w (b ∷ bs) (o ∷ os) (zs ∷ zss) = TellsBound w b.high o zs × TellBounds (w + 1) bs os zss
