-- That a variable does not stand in a type.
use Rattle.std.specs.Prelude.{ℕ, ◌%◌, Bool, true, not, nat_eq}
use Rattle.std.specs.List.{list_all}
use Rattle.jl_model.specs.declared.ty.Ty.{Ty}
use Rattle.jl_model.specs.declared.ty.Ty.TheOpen.{Ty-F, Any, Union, Tuple, Nominal, Var}
use Rattle.jl_model.specs.declared.ty.Ty.TheFolds.{fold-Ty}

abbrev pub lacks_step : ℕ → ℕ → Ty-F Bool → Bool
lacks_step m v Any = true
lacks_step m v (Union bs) = list_all (λ b. b) bs
lacks_step m v (Tuple bs) = list_all (λ b. b) bs
lacks_step m v (Nominal _ bs) = list_all (λ b. b) bs
lacks_step m v (Var w) = not (nat_eq (w % m) v)

-- of m variables, neither v nor an atom of it stands in a type
abbrev pub lacks : ℕ → ℕ → Ty → Bool
lacks m v = fold-Ty Bool (lacks_step m v)
