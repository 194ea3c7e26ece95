-- Static parameters put in, form by form.
use Rattle.std.proofs.Common.{◌≡◌, ◌∙◌, sym, ap, refl, ℕ, Bool, true, false, not, List, map}
use Rattle.std.specs.List.{list_all}
use Rattle.jl_model.specs.declared.ty.Ty.{Ty}
use Rattle.jl_model.specs.declared.ty.Bound.{Bound}
use Rattle.jl_model.specs.Refusals.{bound_types}
use Rattle.jl_model.specs.Valid.{is_closed}
use Rattle.jl_model.proofs.FormLemmas.{put-any, put-union, put-tuple, put-nominal, put-var}
use Rattle.jl_calculus.specs.Statics.{put_bound}
use Rattle.jl_operations.proofs.BoundLemmas.{bounds_stay}

pub ruleset putting = (put-any, put-union, put-tuple, put-nominal, put-var)

not_false : (b : Bool) → not b ≡ false → b ≡ true
not_false true h = refl
not_false false h = let e : true ≡ false = h in cc

-- bounds in which no variable stands are the same
pub bounds_shared : (f : ℕ → Ty) (bs cs ds : List Bound) (r : Bool) → cs ≡ bs → ds ≡ bs → r ≡ not (list_all is_closed (bound_types cs)) → r ≡ false → ds ≡ map (put_bound f) bs
bounds_shared f bs cs ds r e g h k =
    g ∙ sym (bounds_stay f bs (ap (λ z. list_all is_closed (bound_types z)) (sym e) ∙ not_false (list_all is_closed (bound_types cs)) (sym h ∙ k)))
