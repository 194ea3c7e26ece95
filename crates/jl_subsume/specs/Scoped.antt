-- What the laws of the order ask of a signature. A signature that nothing refuses has it, in its kept form.
use Rattle.std.specs.Prelude.{ℕ, ◌≡◌, ◌<◌, ◌⊎◌, false, nat_lt, IsTrue, ◌++◌}
use Rattle.std.specs.List.{flat_map, list_all, Contains}
use Rattle.jl_model.specs.declared.ty.Ty.{Ty}
use Rattle.jl_model.specs.declared.ty.Written.{Written}
use Rattle.jl_model.specs.Kinds.{diagonal, bound}
use Rattle.jl_model.specs.Rows.{alts, width, low, high, kind, vars_in}
use Rattle.jl_model.specs.Subtype.{Table, opaque, Below, is_concrete}
use Rattle.jl_model.specs.Normal.{IsNormal}
use Rattle.jl_model.specs.Refusals.{bound_types, Given, given_in}
use Rattle.jl_model.specs.SigRefusals.{are_bounds, is_component}

-- each variable in its components and bounds is one of its own, and its bounds have no variables, or are nominal types over variables
-- before their own
pub record IsScoped (s : Written) : Type 0 where
  pub own : IsTrue (list_all (λ v. nat_lt v (width s)) (flat_map vars_in s.parts))
  pub own_bounds : IsTrue (list_all (λ v. nat_lt v (width s)) (flat_map vars_in (bound_types s.vars)))
  pub bounds : IsTrue (are_bounds (width s) 0 s.vars)

-- its variables stand at allowed places
abbrev pub IsPlaced : Written → Type 0
IsPlaced s = IsTrue (list_all is_component s.parts)

-- each low bound is below its high bound
abbrev pub IsOrdered : Table → Written → Type 0
IsOrdered n s = (v : ℕ) → v < width s → Below n opaque (low s v) (high s v)

-- each argument of a nominal type in it, nested ones too, is a normal form
abbrev pub HasNormalArguments : Table → Written → Type 0
HasNormalArguments n s = (a : Given) → Contains (flat_map given_in (bound_types s.vars ++ s.parts)) a → IsNormal n a.ty

-- its bounds are in order, and no alternative of the upper bound of a variable that stands in its rows is concrete
pub record IsOpen (n : Table) (s : Written) : Type 0 where
  pub scoped : IsScoped s
  pub ordered : IsOrdered n s
  pub open_bounds : (v : ℕ) → (kind s v ≡ diagonal) ⊎ (kind s v ≡ bound) → (u : Ty) → Contains (alts (high s v)) u → is_concrete n opaque u ≡ false
