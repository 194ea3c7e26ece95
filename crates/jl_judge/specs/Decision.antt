-- Facts that are decided, how decisions are joined, and the test that a decision gives.
use Rattle.std.proofs.Common.{◌≡◌, ap, subst, refl, ℕ, zero, suc, ◌<◌, ◌≤◌, arith, Bool, true, false, nat_lt, List, [], ◌∷◌, ◌⊎◌, inl, inr}
use Rattle.std.proofs.Math.Logic.{∥∥₁_elim}
use Rattle.std.proofs.Props.{props}
use mathlib.Core.HLevel.{Σ_prop_path}
use Rattle.jl_types.proofs.DecideLemmas.{Decided}
use Rattle.jl_sig.proofs.SearchLemmas.{Some, some_none, some_first, some_cons, some_rest}

-- a fact is decided where one is that holds with it
pub decided_by : (P Q : Type 0) → (P → Q) → (Q → P) → Decided P → Decided Q
decided_by P Q f g (inl p) = inl (f p)
decided_by P Q f g (inr d) = inr (λ q. d (g q))

-- two facts together
pub both_decided : (P Q : Type 0) → Decided P → Decided Q → Decided (P × Q)
both_decided P Q (inl p) (inl q) = inl (p, q)
both_decided P Q (inl p) (inr e) = inr (λ h. e h.1)
both_decided P Q (inr d) c = inr (λ h. d h.0)

-- one of two facts
pub either_decided : (P Q : Type 0) → Decided P → Decided Q → Decided (P ⊎ Q)
either_decided P Q (inl p) c = inl (inl p)
either_decided P Q (inr d) (inl q) = inl (inr q)
either_decided P Q (inr d) (inr e) = inr (λ h. elim h [ inl p ↦ d p | inr q ↦ e q ])

-- that a fact does not hold
pub not_decided : (P : Type 0) → Decided P → Decided (P → ⊥)
not_decided P (inl p) = inr (λ d. d p)
not_decided P (inr d) = inl d

-- that a test says yes
pub true_decided : (b : Bool) → Decided (b ≡ true)
true_decided true = inl refl
true_decided false = inr (λ e. let f : false ≡ true = e in cc)

-- that a test says no
pub false_decided : (b : Bool) → Decided (b ≡ false)
false_decided true = inr (λ e. let f : true ≡ false = e in cc)
false_decided false = inl refl

less_at : (b : Bool) (m n : ℕ) → nat_lt m n ≡ b → Decided (m < n)
less_at true m n e = inl (grind (arith, e))
less_at false m n e = inr (λ l. grind (arith, e, l))

-- which of two numbers is less
pub less_decided : (m n : ℕ) → Decided (m < n)
less_decided m n = less_at (nat_lt m n) m n refl

-- a number that is not above another is at most that
pub at_most : (a b : ℕ) → (b < a → ⊥) → a ≤ b
at_most zero b e = omega arith
at_most (suc a) zero e = absurd (e (omega arith))
at_most (suc a) (suc b) e = let h : a ≤ b = at_most a b (λ l. e (omega arith)) in omega arith

-- whether a number is at most another
pub most_decided : (m n : ℕ) → Decided (m ≤ n)
most_decided m n = decided_by (n < m → ⊥) (m ≤ n) (at_most m n) (λ l k. omega (arith, l, k)) (not_decided (n < m) (less_decided n m))

-- of some element of a list
pub some_decided : {A : Type 0} (P : A → Type 0) → ((x : A) → Decided (P x)) → (xs : List A) → Decided (Some P xs)
some_decided P d [] = inr (some_none P)
some_decided P d (x ∷ xs) = step (d x) (some_decided P d xs)
  where
    step : Decided (P x) → Decided (Some P xs) → Decided (Some P (x ∷ xs))
    step (inl p) c = inl (some_first P x xs p)
    step (inr e) (inl s) = inl (some_cons P x xs s)
    step (inr e) (inr f) = inr (λ s. f (some_rest P x xs e s))

-- of some number below another
pub until_decided : (P : ℕ → Type 0) → ((v : ℕ) → Decided (P v)) → (m : ℕ) → Decided ((v : ℕ) × (v < m) × P v)
until_decided P d zero = inr (λ h. omega (arith, h.1))
until_decided P d (suc m) = step (d m) (until_decided P d m)
  where
    last : (P m → ⊥) → (v : ℕ) → v < suc m → P v → (v ≡ m) ⊎ (v < m) → (w : ℕ) × (w < m) × P w
    last e v l p (inl i) = absurd (e (subst P i p))
    last e v l p (inr k) = (v, k, p)

    cut : (v n : ℕ) → v < suc n → (v ≡ n) ⊎ (v < n)
    cut zero zero l = inl refl
    cut zero (suc n) l = inr (omega arith)
    cut (suc v) zero l = absurd (omega arith)
    cut (suc v) (suc n) l = elim (cut v n (omega arith)) [ inl e ↦ inl (ap suc e) | inr k ↦ inr (omega arith) ]

    step : Decided (P m) → Decided ((v : ℕ) × (v < m) × P v) → Decided ((v : ℕ) × (v < suc m) × P v)
    step (inl p) c = inl (m, omega arith, p)
    step (inr e) (inl h) = let l = h.1 in inl (h.0, omega (arith, l), h.2)
    step (inr e) (inr f) = inr (λ h. f (last e h.0 h.1 h.2 (cut h.0 m h.1)))

-- THE TEST OF A FACT

-- r is the test of P: yes where P holds, and nowhere that it does not
pub record Marks (P : Type 0) (r : Bool) : Type 0 where
  pub holds : r ≡ true → (P → ⊥) → ⊥
  pub found : P → r ≡ true

marks_prop : (P : Type 0) (r : Bool) → IsProp (Marks P r)
marks_prop P r = hlevel props

same_marks : (P : Type 0) (r s : Bool) → Marks P r → Marks P s → r ≡ s
same_marks P true true m k = refl
same_marks P false false m k = refl
same_marks P true false m k = absurd (m.holds refl (λ p. let e : false ≡ true = k.found p in cc))
same_marks P false true m k = absurd (k.holds refl (λ p. let e : false ≡ true = m.found p in cc))

-- a fact has one test
pub test_prop : (P : Type 0) → IsProp ((r : Bool) × Marks P r)
test_prop P u v = Σ_prop_path (marks_prop P) (same_marks P u.0 v.0 u.1 v.1)

-- the test that a decision gives
pub test_by : (P : Type 0) → Decided P → (r : Bool) × Marks P r
test_by P (inl p) = (true, record { holds = λ e d. d p; found = λ q. refl })
test_by P (inr d) = (false, record { holds = λ e. let f : false ≡ true = e in cc; found = λ p. absurd (d p) })

-- the test of a fact that a proof of D decides, where it is known only that there is one
unfoldable pub test_of : (D P : Type 0) → (D → Decided P) → ∥ D ∥₁ → Bool
test_of D P f h = (∥∥₁_elim h (test_prop P) (λ d. test_by P (f d))).0
