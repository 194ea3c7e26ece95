use Rattle.std.proofs.Common.{◌≡◌, drop}
use Rattle.std.specs.List.{flat_map, list_all}
use Rattle.jl_model.specs.Rows.{vars_in}
use Rattle.jl_match.proofs.PlaceLemmas.{may}
use Rattle.jl_match.proofs.places.+before.Given as goal

abbrev pub invariant-are_before-loop-ty : goal.invariant-are_before-loop-ty
invariant-are_before-loop-ty l = list_all (may l.variable l.count) (flat_map vars_in l.types) ≡ list_all (may l.variable l.count) (flat_map vars_in (drop l.ty-index l.types))
