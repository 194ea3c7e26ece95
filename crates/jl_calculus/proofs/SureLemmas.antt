-- What can't fail to hold, and searches through lists whose questions are decided.
use Rattle.std.proofs.Common.{◌≡◌, ◌∙◌, sym, subst, refl, ℕ, zero, suc, ◌<◌, ◌⊎◌, inl, inr, arith, Bool, true, false, nat_eq, nat_lt, List, [], ◌∷◌}
use Rattle.std.specs.List.{Contains}

-- it can't fail to hold
abbrev pub Sure : Type 0 → Type 0
Sure A = (A → ⊥) → ⊥

-- it holds or not
abbrev pub Known : Type 0 → Type 0
Known A = A ⊎ (A → ⊥)

pub sure_known : (A : Type 0) → Sure (Known A)
sure_known A h = h (inr (λ a. h (inl a)))

pub known_not : (A : Type 0) → Known A → Known (A → ⊥)
known_not A (inl a) = inr (λ n. n a)
known_not A (inr n) = inl n

pub known_both : (A B : Type 0) → Known A → Known B → Known (A × B)
known_both A B (inl a) (inl b) = inl (a, b)
known_both A B (inl a) (inr n) = inr (λ p. n p.1)
known_both A B (inr n) k = inr (λ p. n p.0)

pub known_less : (a b : ℕ) → Known (a < b)
known_less a b = cases (nat_lt a b) refl
  where
    cases : (t : Bool) → nat_lt a b ≡ t → Known (a < b)
    cases true p = inl (grind (arith, p))
    cases false p = inr (λ l. let q : nat_lt a b ≡ true = grind (arith, l) in let z : true ≡ false = sym q ∙ p in cc)

pub known_same : (a b : ℕ) → Known (a ≡ b)
known_same a b = cases (nat_eq a b) refl
  where
    cases : (t : Bool) → nat_eq a b ≡ t → Known (a ≡ b)
    cases true p = inl (grind (arith, p))
    cases false p = inr (λ e. let q : nat_eq a b ≡ true = grind (arith, e) in let z : true ≡ false = sym q ∙ p in cc)

-- x is one of these
abbrev pub In : {X : Type 0} → X → List X → Type 0
In x [] = ⊥
In x (y ∷ ys) = (y ≡ x) ⊎ In x ys

pub in_of : {X : Type 0} (xs : List X) (x : X) → Contains xs x → In x xs
in_of [] x (k, l, e) = absurd (omega (arith, l))
in_of (y ∷ xs) x (zero, l, e) = inl e
in_of (y ∷ xs) x (suc k, l, e) = inr (in_of xs x (k, omega (arith, l), e))

pub contains_of : {X : Type 0} (xs : List X) (x : X) → In x xs → Contains xs x
contains_of [] x i = absurd i
contains_of (y ∷ xs) x (inl e) = (zero, omega arith, e)
contains_of (y ∷ xs) x (inr i) = let c = contains_of xs x i in (suc c.0, omega (arith, c.1), c.2)

-- each of these has the property, where it holds of the first and of each later one
pub each_of : {X : Type 0} (Q : X → Type 0) (x : X) (xs : List X) → Q x → ((y : X) → In y xs → Q y) → (y : X) → In y (x ∷ xs) → Q y
each_of Q x xs q r y (inl e) = subst Q e q
each_of Q x xs q r y (inr i) = r y i

pub sure_each : {X : Type 0} (xs : List X) (Q : X → Type 0) → ((x : X) → Sure (Q x)) → Sure ((x : X) → In x xs → Q x)
sure_each [] Q f h = h (λ x i. absurd i)
sure_each (x ∷ xs) Q f h = f x (λ q. sure_each xs Q f (λ r. h (each_of Q x xs q r)))

-- one of these has the property, or none
abbrev pub FoundOrNot : {X : Type 0} → List X → (X → Type 0) → Type 0
FoundOrNot {X} xs Q = ((x : X) × In x xs × Q x) ⊎ ((x : X) → In x xs → Q x → ⊥)

search_at : {X : Type 0} (Q : X → Type 0) (x : X) (xs : List X) → Known (Q x) → FoundOrNot xs Q → FoundOrNot (x ∷ xs) Q
search_at Q x xs (inl q) r = inl (x, inl refl, q)
search_at Q x xs (inr n) (inl (y, i, q)) = inl (y, inr i, q)
search_at Q x xs (inr n) (inr m) = inr (each_of (λ y. Q y → ⊥) x xs n m)

pub search_in : {X : Type 0} (Q : X → Type 0) (xs : List X) → ((x : X) → In x xs → Known (Q x)) → FoundOrNot xs Q
search_in Q [] k = inr (λ x i q. absurd i)
search_in Q (x ∷ xs) k = search_at Q x xs (k x (inl refl)) (search_in Q xs (λ y i. k y (inr i)))

-- whether all of these have the property
pub known_each : {X : Type 0} (Q : X → Type 0) (xs : List X) → ((x : X) → In x xs → Known (Q x)) → Known ((x : X) → In x xs → Q x)
known_each Q [] k = inl (λ x i. absurd i)
known_each Q (x ∷ xs) k = by (k x (inl refl)) (known_each Q xs (λ y i. k y (inr i)))
  where
    by : Known (Q x) → Known ((y : _) → In y xs → Q y) → Known ((y : _) → In y (x ∷ xs) → Q y)
    by (inl q) (inl r) = inl (each_of Q x xs q r)
    by (inl q) (inr n) = inr (λ f. n (λ y i. f y (inr i)))
    by (inr n) r = inr (λ f. n (f x (inl refl)))
