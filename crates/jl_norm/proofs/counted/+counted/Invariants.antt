use Rattle.std.proofs.Common.{◌≡◌, ◌++◌, ◌∷◌, [], drop}
use Rattle.std.specs.List.{list_all}
use Rattle.jl_model.specs.Valid.{is_counted}
use Rattle.jl_norm.proofs.counted.+counted.Given as goal

abbrev pub invariant-are_counted-loop-ty : goal.invariant-are_counted-loop-ty
invariant-are_counted-loop-ty l = list_all (is_counted (l.table ++ l.decl ∷ [])) l.types ≡ list_all (is_counted (l.table ++ l.decl ∷ [])) (drop l.ty-index l.types)
