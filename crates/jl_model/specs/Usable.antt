-- Which variables of a signature a method's body may use.
use Rattle.std.specs.Prelude.{ℕ, Bool, true, false, ◌&&◌, not, nat_eq, List, [], ◌∷◌}
use Rattle.std.specs.List.{list_all, list_any}
use Rattle.jl_model.specs.declared.ty.Ty.{Ty}
use Rattle.jl_model.specs.declared.ty.Ty.TheOpen.{Ty-F, Any, Union, Tuple, Nominal, Var}
use Rattle.jl_model.specs.declared.ty.Ty.TheFolds.{para-Ty}
use Rattle.jl_model.specs.declared.ty.Written.{Written}
use Rattle.jl_model.specs.Kinds.{Places, Kind, unused, once, diagonal, bound}
use Rattle.jl_model.specs.Rows.{kind, part_places, vars_in}

-- the variable stands in a type
abbrev pub stands_in : ℕ → Ty → Bool
stands_in v t = list_any (nat_eq v) (vars_in t)

abbrev pub outside_step : ℕ → Ty-F (Ty × Bool) → Bool
outside_step v Any = true
outside_step v (Union es) = list_all (λ e. not (stands_in v e.0)) es
outside_step v (Tuple es) = list_all (λ e. e.1) es
outside_step v (Nominal _ es) = list_all (λ e. e.1) es
outside_step v (Var _) = true

-- no occurrence of the variable stands in a union
abbrev pub is_outside_unions : ℕ → Ty → Bool
is_outside_unions v = para-Ty Bool (outside_step v)

-- what a match finds at a place in a component: a variable that stands at covariant places alone, or at an invariant one too
abbrev pub is_met : Kind → Places → Bool
is_met unused p = false
is_met once p = true
is_met diagonal p = true
is_met bound p = not (nat_eq p.invariant 0)

-- it stands where a match finds it in a component, and no occurrence stands in a union
abbrev pub is_usable : Written → ℕ → Bool
is_usable s v = is_met (kind s v) (part_places s v) && list_all (is_outside_unions v) s.parts
