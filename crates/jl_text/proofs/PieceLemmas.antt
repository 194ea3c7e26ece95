-- Texts that are written piece by piece.
use Rattle.std.proofs.Common.{◌≡◌, ℕ, List, ◌++◌, Result, OnOk, ap, ◌∙◌}
use Rattle.std.proofs.lemmas.List.{append_assoc}
use Rattle.std.specs.declared.alloc.AllocError.{AllocError}

module _ (r : Result (Unit {0}) AllocError) (old new : List ℕ) where
  -- a last piece after one
  pub after-one : (mid a x : List ℕ) → mid ≡ old ++ a → OnOk r (new ≡ mid ++ x) → OnOk r (new ≡ old ++ (a ++ x))
  after-one mid a x e h =
      let regrouped : mid ++ x ≡ old ++ (a ++ x) = ap (λ z. z ++ x) e ∙ append_assoc old a x in
      rw (← regrouped) h

  -- a last piece after two
  pub after-two : (m n a b x : List ℕ) → m ≡ old ++ a → n ≡ m ++ b → OnOk r (new ≡ n ++ x) → OnOk r (new ≡ old ++ (a ++ (b ++ x)))
  after-two m n a b x p q h =
      let regrouped : n ++ x ≡ old ++ (a ++ (b ++ x)) = rw (q, p) (simp append_assoc) in
      rw (← regrouped) h

  -- a last piece after three that come together
  pub after-three : (mid a b c x : List ℕ) → mid ≡ old ++ (a ++ (b ++ c)) → OnOk r (new ≡ mid ++ x)
      → OnOk r (new ≡ old ++ (a ++ (b ++ (c ++ x))))
  after-three mid a b c x e h =
      let regrouped : mid ++ x ≡ old ++ (a ++ (b ++ (c ++ x))) = ap (λ z. z ++ x) e ∙ simp append_assoc in
      rw (← regrouped) h

  -- a last piece after two, and three that come together
  pub after-two-and-three : (m n o a b c d e x : List ℕ) → m ≡ old ++ a → n ≡ m ++ b → o ≡ n ++ (c ++ (d ++ e)) → OnOk r (new ≡ o ++ x)
      → OnOk r (new ≡ old ++ (a ++ (b ++ (c ++ (d ++ (e ++ x))))))
  after-two-and-three m n o a b c d e x p q s h =
      let regrouped : o ++ x ≡ old ++ (a ++ (b ++ (c ++ (d ++ (e ++ x))))) = rw (s, q, p) (simp append_assoc) in
      rw (← regrouped) h

  -- a last piece after one, two that come together, and three
  pub after-six : (m n o p q a b c d e f x : List ℕ) → m ≡ old ++ a → n ≡ m ++ (b ++ c) → o ≡ n ++ d → p ≡ o ++ e → q ≡ p ++ f
      → OnOk r (new ≡ q ++ x) → OnOk r (new ≡ old ++ (a ++ (b ++ (c ++ (d ++ (e ++ (f ++ x)))))))
  after-six m n o p q a b c d e f x i j k l s h =
      let regrouped : q ++ x ≡ old ++ (a ++ (b ++ (c ++ (d ++ (e ++ (f ++ x)))))) = rw (s, l, k, j, i) (simp append_assoc) in
      rw (← regrouped) h
