-- Some element of a list, from a place on.
use Rattle.std.proofs.Common.{◌≡◌, sym, subst, refl, ℕ, zero, suc, ◌+◌, ◌<◌, arith, add-one, List, [], ◌∷◌, length, drop, get_or}
use Rattle.std.specs.List.{Contains}

module _ {A : Type 0} (P : A → Type 0) where
  -- one of these has it
  abbrev pub Some : List A → Type 0
  Some xs = (x : A) × Contains xs x × P x

  pub some_none : Some [] → ⊥
  some_none s = omega (arith, s.1.1)

  pub some_first : (x : A) (xs : List A) → P x → Some (x ∷ xs)
  some_first x xs p = (x, (zero, omega arith, refl), p)

  pub some_cons : (x : A) (xs : List A) → Some xs → Some (x ∷ xs)
  some_cons x xs s = (s.0, (suc s.1.0, omega (arith, s.1.1), s.1.2), s.2)

  pub some_rest : (x : A) (xs : List A) → (P x → ⊥) → Some (x ∷ xs) → Some xs
  some_rest x xs h (a, (zero, l, e), p) = absurd (h (subst P (sym e) p))
  some_rest x xs h (a, (suc k, l, e), p) = (a, (k, omega arith, e), p)

  pub some_at : (xs : List A) (i : ℕ) (x : A) → i < length xs → x ≡ get_or xs i x → P x → Some xs
  some_at [] i x l e p = absurd (omega arith)
  some_at (y ∷ ys) zero x l e p = some_first y ys (subst P e p)
  some_at (y ∷ ys) (suc i) x l e p = some_cons y ys (some_at ys i x (omega arith) e p)

  pub some_later : (xs : List A) (i : ℕ) (x : A) → i < length xs → x ≡ get_or xs i x → (P x → ⊥) → Some (drop i xs) → Some (drop (i + 1) xs)
  some_later [] i x l e h s = absurd (omega arith)
  some_later (y ∷ ys) zero x l e h s = some_rest y ys (λ p. h (subst P (sym e) p)) s
  some_later (y ∷ ys) (suc i) x l e h s = rw add-one (rw add-one at (some_later ys i x (omega arith) e h s))
