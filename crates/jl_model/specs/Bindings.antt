-- What a method's body gets for the variables of its signature (Julia manual, Methods: Parametric Methods).
use Rattle.std.specs.Prelude.{ℕ, cond, List, map, Option}
use Rattle.jl_model.specs.declared.ty.Ty.{Ty}
use Rattle.jl_model.specs.declared.ty.Ty.TheVariants as W
use Rattle.jl_model.specs.declared.ty.Written.{Written}
use Rattle.jl_model.specs.Subtype.{Table, opaque}
use Rattle.jl_model.specs.AllRows.{each_var}
use Rattle.jl_model.specs.Usable.{is_usable}
use Rattle.jl_model.specs.Found.{find_inner, find_outer, first, or_else, or_type}

-- what stands at the first invariant place of v, among the arguments of nominal types
abbrev pub inner_found : Table → Written → List Ty → ℕ → Option Ty
inner_found n s ts v = first (map (find_inner n opaque v) s.parts) ts

-- what stands at the first covariant place of v: an argument, or a part of a tuple
abbrev pub outer_found : Written → List Ty → ℕ → Option Ty
outer_found s ts v = first (map (find_outer opaque v) s.parts) ts

-- The type of the variable v of s in a call with arguments of the concrete types ts: of a usable variable the type at its
-- first invariant place, else the type at its first covariant place. A variable that may not be used stands for Any.
abbrev pub binding : Table → Written → List Ty → ℕ → Ty
binding n s ts v = cond (is_usable s v) (or_type (or_else (inner_found n s ts v) (outer_found s ts v)) W.Any) W.Any

-- one type for each variable, in order
abbrev pub bindings : Table → Written → List Ty → List Ty
bindings n s ts = each_var (binding n s ts) 0 s.vars
