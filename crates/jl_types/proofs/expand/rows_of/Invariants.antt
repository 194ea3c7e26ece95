use Rattle.std.proofs.Common.{◌≡◌, ◌∷◌, ◌++◌, map, drop}
use Rattle.std.specs.List.{flat_map}
use Rattle.jl_types.proofs.expand.rows_of.Given as goal

abbrev pub invariant-loop-first : goal.invariant-loop-first
invariant-loop-first l = (l.rows.items ++ flat_map (λ t. map (λ us. t ∷ us) l.tails) (drop l.first-index l.firsts)) ≡ flat_map (λ t. map (λ us. t ∷ us) l.tails) l.firsts
