use Rattle.std.proofs.Common.{◌≡◌, ◌+◌, ◌≤◌, min, map, drop}
use Rattle.jl_model.specs.Kinds.{places, plus_all}
use Rattle.jl_sig.proofs.kind.+places.Given as goal

abbrev pub invariant-places_in_all-loop-ty : goal.invariant-places_in_all-loop-ty
invariant-places_in_all-loop-ty l = record {
  covariant_range : l.above ≤ 2;
  invariant_range : l.below ≤ 2;
  covariant : min (l.above + (plus_all (map (places l.variable) (drop l.ty-index l.types))).covariant) 2 ≡ min (plus_all (map (places l.variable) l.types)).covariant 2;
  invariant : min (l.below + (plus_all (map (places l.variable) (drop l.ty-index l.types))).invariant) 2 ≡ min (plus_all (map (places l.variable) l.types)).invariant 2;
}
