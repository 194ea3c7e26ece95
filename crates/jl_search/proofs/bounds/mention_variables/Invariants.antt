use Rattle.std.proofs.Common.{◌≡◌, not, drop}
use Rattle.std.specs.List.{list_any}
use Rattle.jl_model.specs.Valid.{is_closed}
use Rattle.jl_model.specs.declared.ty.Bound.{Bound}
use Rattle.jl_search.proofs.bounds.mention_variables.Given as goal

abbrev pub invariant-loop-bound : goal.invariant-loop-bound
invariant-loop-bound l = list_any (λ (b : Bound). not (is_closed b.high)) l.bounds ≡ list_any (λ (b : Bound). not (is_closed b.high)) (drop l.bound-index l.bounds)
