-- The variables in a type.
use Rattle.std.specs.Prelude.{ℕ, Bool, nat_lt}
use Rattle.std.specs.List.{list_all}
use Rattle.jl_model.specs.declared.ty.Ty.{Ty}
use Rattle.jl_model.specs.Rows.{vars_in}

-- each variable in it has a number below n
abbrev pub has_variables_below : ℕ → Ty → Bool
has_variables_below n t = list_all (λ v. nat_lt v n) (vars_in t)
