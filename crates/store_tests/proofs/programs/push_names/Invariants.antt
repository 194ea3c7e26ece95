use Rattle.std.proofs.Common.{◌≡◌, ◌++◌, drop, map, List, ℕ, Bor}
use Rattle.store_tests.proofs.programs.push_names.Given as goal

abbrev pub invariant-loop-word : goal.invariant-loop-word
invariant-loop-word l = l.names.items ++ map (λ (w : Bor (List ℕ)). w.now) (drop l.word-index l.words) ≡ l.initial.names.items ++ map (λ (w : Bor (List ℕ)). w.now) l.words
