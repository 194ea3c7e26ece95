use Rattle.std.proofs.Common.{◌≡◌, nat_lt, drop}
use Rattle.std.specs.List.{flat_map, list_all}
use Rattle.jl_model.specs.Rows.{vars_in}
use Rattle.jl_match.proofs.names.+own.Given as goal

abbrev pub invariant-are_own-loop-ty : goal.invariant-are_own-loop-ty
invariant-are_own-loop-ty l = list_all (λ v. nat_lt v l.count) (flat_map vars_in l.types) ≡ list_all (λ v. nat_lt v l.count) (flat_map vars_in (drop l.ty-index l.types))
