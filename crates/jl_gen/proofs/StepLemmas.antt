-- One more line of those that stand for each number.
use Rattle.std.proofs.Common.{◌≡◌, ◌∙◌, ap, ℕ, suc, ◌+◌, arith, List, ◌++◌}
use Rattle.std.proofs.lemmas.List.{append_assoc}
use Rattle.jl_gen.specs.Script.{for_each}

pub one_more : (f : ℕ → List ℕ) (i : ℕ) (old mid new : List ℕ) → mid ≡ old ++ for_each f i → new ≡ mid ++ f i → new ≡ old ++ for_each f (i + 1)
one_more f i old mid new p q =
    let next : suc i ≡ i + 1 = omega arith in
    q ∙ ap (λ z. z ++ f i) p ∙ append_assoc old (for_each f i) (f i) ∙ ap (λ n. old ++ for_each f n) next
