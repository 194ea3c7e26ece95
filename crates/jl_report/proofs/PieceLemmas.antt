-- Texts that are written piece by piece.
use Rattle.std.proofs.Common.{◌≡◌, ℕ, List, ◌++◌, Result, OnOk}
use Rattle.std.proofs.lemmas.List.{append_assoc}
use Rattle.std.specs.declared.alloc.AllocError.{AllocError}

module _ (r : Result (Unit {0}) AllocError) (old new : List ℕ) where
  -- a last piece after two
  pub after_two : (m n a b x : List ℕ) → m ≡ old ++ a → n ≡ m ++ b → OnOk r (new ≡ n ++ x) → OnOk r (new ≡ old ++ (a ++ (b ++ x)))
  after_two m n a b x p q h =
      let regrouped : n ++ x ≡ old ++ (a ++ (b ++ x)) = rw (q, p) (simp append_assoc) in
      rw (← regrouped) h

  -- a last piece after three
  pub after_three : (m n o a b c x : List ℕ) → m ≡ old ++ a → n ≡ m ++ b → o ≡ n ++ c → OnOk r (new ≡ o ++ x) → OnOk r (new ≡ old ++ (a ++ (b ++ (c ++ x))))
  after_three m n o a b c x p q s h =
      let regrouped : o ++ x ≡ old ++ (a ++ (b ++ (c ++ x))) = rw (s, q, p) (simp append_assoc) in
      rw (← regrouped) h
