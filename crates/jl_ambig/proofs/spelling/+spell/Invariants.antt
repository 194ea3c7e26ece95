use Rattle.std.proofs.Common.{◌≡◌, ◌++◌, map, drop}
use Rattle.std.specs.List.{flat_map}
use Rattle.jl_model.specs.Order.{spelled, spell_all}
use Rattle.jl_ambig.proofs.spelling.+spell.Given as goal

abbrev pub invariant-push_all-loop-ty : goal.invariant-push_all-loop-ty
invariant-push_all-loop-ty l = (l.out.items ++ flat_map spelled (drop l.ty-index l.types)) ≡ l.fn.out.items ++ spell_all (map spelled l.types)
