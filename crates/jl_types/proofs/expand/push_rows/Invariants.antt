use Rattle.std.proofs.Common.{◌≡◌, ◌∷◌, ◌++◌, map, drop}
use Rattle.jl_types.proofs.expand.push_rows.Given as goal

abbrev pub invariant-loop-tail : goal.invariant-loop-tail
invariant-loop-tail l = (l.rows.items ++ map (λ us. l.first ∷ us) (drop l.tail-index l.tails)) ≡ l.initial.rows.items ++ map (λ us. l.first ∷ us) l.tails
