-- Values that go from one stack to another, the last one first.
use Rattle.std.proofs.Common.{◌≡◌, ℕ, ◌+◌, ◌≤◌, List, [], ◌∷◌, ◌++◌, take, drop, reverse, length, refl, sym, ap, ◌∙◌, append_assoc, arith}
use Rattle.std.proofs.lemmas.List.{length-drop, take-append-drop, take_at, drop_at, reverse-append}
use Rattle.jl_program.specs.declared.value.Value.{Value}

whole_is : (all vs us : List Value) (v : Value) → vs ≡ take (length vs) all → vs ≡ us ++ v ∷ [] → all ≡ us ++ (v ∷ drop (length vs) all)
whole_is all vs us v first e =
    sym (take-append-drop (length vs) all)
    ∙ ap (λ ws. ws ++ drop (length vs) all) (sym first ∙ e)
    ∙ append_assoc us (v ∷ []) (drop (length vs) all)

pub first_left : (all vs us : List Value) (v : Value) → vs ≡ take (length vs) all → vs ≡ us ++ v ∷ [] → us ≡ take (length us) all
first_left all vs us v first e = sym (ap (take (length us)) (whole_is all vs us v first e) ∙ take_at us (v ∷ drop (length vs) all) (length us) refl)

pub last_moved : (all vs us ss : List Value) (v : Value) → vs ≡ take (length vs) all → vs ≡ us ++ v ∷ []
    → (ss ++ reverse (drop (length vs) all)) ++ v ∷ [] ≡ ss ++ reverse (drop (length us) all)
last_moved all vs us ss v first e =
    append_assoc ss (reverse (drop (length vs) all)) (v ∷ [])
    ∙ ap (λ ws. ss ++ ws) (sym (ap reverse (ap (drop (length us)) (whole_is all vs us v first e) ∙ drop_at us (v ∷ drop (length vs) all) (length us) refl) ∙ reverse-append (v ∷ []) (drop (length vs) all)))

-- one value is left as it is
one_turned : (vs : List Value) → length vs ≤ 1 → vs ≡ reverse vs
one_turned [] le = refl
one_turned (v ∷ []) le = refl
one_turned (v ∷ u ∷ vs) le = absurd (omega (arith, le))

pub few_turned : (place : ℕ) (vs : List Value) → length vs ≤ place + 1 → vs ≡ take place vs ++ reverse (drop place vs)
few_turned place vs le = let n = length-drop place vs in sym (take-append-drop place vs) ∙ ap (λ us. take place vs ++ us) (one_turned (drop place vs) (omega (arith, n, le)))
