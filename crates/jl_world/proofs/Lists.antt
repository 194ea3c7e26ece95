-- Lists: what stands last of a kind, and what stands where.
use Rattle.std.proofs.Common.{◌≡◌, ◌∙◌, ap, sym, subst, refl, ℕ, zero, suc, ◌+◌, ◌<◌, ◌≤◌, ◌⊎◌, inl, inr, ⊎_elim, arith, Bool, true, false, List, [], ◌∷◌, ◌++◌, length, take, drop, slice_get, get_or, append_assoc, append-nil, length-append, Option, Some, None}
use Rattle.std.specs.List.{Contains}
use Rattle.std.proofs.lemmas.Option.{same_Some, slice_get_within, slice_get-get_or, get_or_from_slice_get}
use Rattle.jl_calculus.specs.Words.{one_past, after_last}

module _ {X : Type 0} where
  -- ---- places

  pub get_push : (xs : List X) (x : X) → slice_get (xs ++ x ∷ []) (length xs) ≡ Some x
  get_push [] x = refl
  get_push (y ∷ xs) x = get_push xs x

  -- what stands in a list with one more
  pub get_pushed : (xs : List X) (x y : X) (k : ℕ) → slice_get (xs ++ x ∷ []) k ≡ Some y → ((k < length xs) × (slice_get xs k ≡ Some y)) ⊎ ((k ≡ length xs) × (x ≡ y))
  get_pushed [] x y zero e = inr (refl, same_Some x y e)
  get_pushed [] x y (suc k) e = absurd cc
  get_pushed (z ∷ xs) x y zero e = inl (omega arith, e)
  get_pushed (z ∷ xs) x y (suc k) e = ⊎_elim (λ t. let n = t.0 in inl (omega arith, t.1)) (λ t. inr (ap suc t.0, t.1)) (get_pushed xs x y k e)

  pub there : (xs : List X) (k : ℕ) → k < length xs → (x : X) × (slice_get xs k ≡ Some x)
  there [] k l = absurd (omega (arith, l))
  there (x ∷ xs) zero l = (x, refl)
  there (x ∷ xs) (suc k) l = there xs k (omega (arith, l))

  pub one_there : (xs : List X) (k : ℕ) (x y : X) → slice_get xs k ≡ Some x → slice_get xs k ≡ Some y → x ≡ y
  one_there xs k x y a b = same_Some x y (sym a ∙ b)

  pub contains_at : (xs : List X) (k : ℕ) (x : X) → slice_get xs k ≡ Some x → Contains xs x
  contains_at xs k x e = (k, slice_get_within xs k x e, get_or_from_slice_get xs k x x e)

  pub place_in : (xs : List X) (x : X) → Contains xs x → (k : ℕ) × (slice_get xs k ≡ Some x)
  place_in xs x (k, l, e) = (k, slice_get-get_or xs k x l ∙ ap Some e)

  pub get_taken : (xs : List X) (n k : ℕ) (x : X) → slice_get xs k ≡ Some x → k < n → slice_get (take n xs) k ≡ Some x
  get_taken [] n k x e l = absurd cc
  get_taken (y ∷ xs) zero k x e l = absurd (omega (arith, l))
  get_taken (y ∷ xs) (suc n) zero x e l = e
  get_taken (y ∷ xs) (suc n) (suc k) x e l = get_taken xs n k x e (omega (arith, l))

  pub get_whole : (xs : List X) (n k : ℕ) (x : X) → slice_get (take n xs) k ≡ Some x → slice_get xs k ≡ Some x
  get_whole [] zero k x e = e
  get_whole [] (suc n) k x e = e
  get_whole (y ∷ xs) zero k x e = absurd cc
  get_whole (y ∷ xs) (suc n) zero x e = e
  get_whole (y ∷ xs) (suc n) (suc k) x e = get_whole xs n k x e

  pub take_short : (xs ys : List X) (n : ℕ) → n ≤ length xs → take n (xs ++ ys) ≡ take n xs
  take_short [] ys zero l = refl
  take_short [] ys (suc n) l = absurd (omega (arith, l))
  take_short (x ∷ xs) ys zero l = refl
  take_short (x ∷ xs) ys (suc n) l = ap (λ zs. x ∷ zs) (take_short xs ys n (omega (arith, l)))

  pub take_whole : (xs : List X) → take (length xs) xs ≡ xs
  take_whole [] = refl
  take_whole (x ∷ xs) = ap (λ zs. x ∷ zs) (take_whole xs)

  pub take_low : (n : ℕ) (xs : List X) → length (take n xs) ≤ n
  take_low zero [] = omega arith
  take_low (suc n) [] = omega arith
  take_low zero (x ∷ xs) = omega arith
  take_low (suc n) (x ∷ xs) = let h = take_low n xs in omega (arith, h)

  -- ---- what stands last of a kind

  module _ (test : X → Bool) where
    one_past-low : (n m : ℕ) (b : Bool) → n ≤ m → one_past n b ≤ suc m
    one_past-low zero m true l = omega arith
    one_past-low zero m false l = omega arith
    one_past-low (suc n) m b l = omega (arith, l)

    pub last_low : (xs : List X) → after_last test xs ≤ length xs
    last_low [] = omega arith
    last_low (x ∷ xs) = one_past-low (after_last test xs) (length xs) (test x) (last_low xs)

    -- none behind: it is that of the front
    pub last_front : (xs ys : List X) → after_last test ys ≡ 0 → after_last test (xs ++ ys) ≡ after_last test xs
    last_front [] ys e = e
    last_front (x ∷ xs) ys e = ap (λ n. one_past n (test x)) (last_front xs ys e)

    pub last_back : (xs ys : List X) (n : ℕ) → after_last test ys ≡ suc n → after_last test (xs ++ ys) ≡ length xs + suc n
    last_back [] ys n e = e ∙ let z : suc n ≡ 0 + suc n = omega arith in z
    last_back (x ∷ xs) ys n e = ap (λ m. one_past m (test x)) (last_back xs ys n e ∙ let z : length xs + suc n ≡ suc (length xs + n) = omega arith in z) ∙ let z : suc (suc (length xs + n)) ≡ suc (length xs) + suc n = omega arith in z

    pub last_hit : (xs : List X) (x : X) → test x ≡ true → after_last test (xs ++ x ∷ []) ≡ suc (length xs)
    last_hit [] x e = ap (one_past 0) e
    last_hit (y ∷ xs) x e = ap (λ n. one_past n (test y)) (last_hit xs x e)

    pub last_miss : (xs : List X) (x : X) → test x ≡ false → after_last test (xs ++ x ∷ []) ≡ after_last test xs
    last_miss xs x e = last_front xs (x ∷ []) (ap (one_past 0) e)

    -- where the last stands in the front, there is none behind
    pub none_behind : (xs ys : List X) → after_last test (xs ++ ys) ≤ length xs → after_last test ys ≡ 0
    none_behind xs ys l = by (after_last test ys) refl
      where
        by : (n : ℕ) → after_last test ys ≡ n → after_last test ys ≡ 0
        by zero e = e
        by (suc n) e = absurd (omega (arith, l, last_back xs ys n e))

    -- where none stands, none is met
    pub none_met : (xs : List X) → after_last test xs ≡ 0 → (k : ℕ) (x : X) → slice_get xs k ≡ Some x → test x ≡ false
    none_met [] e k x at = absurd cc
    none_met (y ∷ xs) e k x at = by (after_last test xs) (test y) refl refl e k at (λ f k at. none_met xs f k x at)
      where
        by : (n : ℕ) (b : Bool) → after_last test xs ≡ n → test y ≡ b → one_past n b ≡ 0 → (k : ℕ) → slice_get (y ∷ xs) k ≡ Some x → (after_last test xs ≡ 0 → (k : ℕ) → slice_get xs k ≡ Some x → test x ≡ false) → test x ≡ false
        by (suc n) b f t e k at r = absurd (omega (arith, e))
        by zero true f t e k at r = absurd (omega (arith, e))
        by zero false f t e zero at r = ap test (sym (same_Some y x at)) ∙ t
        by zero false f t e (suc k) at r = r f k at

    pub record IsLast (xs : List X) (j : ℕ) : Type 0 where
      pub x : X
      pub at : slice_get xs j ≡ Some x
      pub hit : test x ≡ true
      pub later : (k : ℕ) (y : X) → j < k → slice_get xs k ≡ Some y → test y ≡ false

    -- the last of a kind, where there is one
    pub last_is : (xs : List X) (j : ℕ) → after_last test xs ≡ suc j → IsLast xs j
    last_is [] j e = absurd (omega (arith, e))
    last_is (y ∷ xs) j e = by (after_last test xs) (test y) refl refl e (λ n f. last_is xs n f)
      where
        at_first : after_last test xs ≡ 0 → (k : ℕ) (x : X) → 0 < k → slice_get (y ∷ xs) k ≡ Some x → test x ≡ false
        at_first f zero x l at = absurd (omega (arith, l))
        at_first f (suc k) x l at = none_met xs f k x at

        further : (n : ℕ) → IsLast xs n → IsLast (y ∷ xs) (suc n)
        further n r = record { x = r.x; at = r.at; hit = r.hit; later = λ k x l at. later k x l at r.later }
          where
            later : (k : ℕ) (x : X) → suc n < k → slice_get (y ∷ xs) k ≡ Some x → ((k : ℕ) (x : X) → n < k → slice_get xs k ≡ Some x → test x ≡ false) → test x ≡ false
            later zero x l at h = absurd (omega (arith, l))
            later (suc k) x l at h = h k x (omega (arith, l)) at

        by : (n : ℕ) (b : Bool) → after_last test xs ≡ n → test y ≡ b → one_past n b ≡ suc j → ((n : ℕ) → after_last test xs ≡ suc n → IsLast xs n) → IsLast (y ∷ xs) j
        by zero false f t e r = absurd (omega (arith, e))
        by zero true f t e r =
            let z : 0 ≡ j = omega (arith, e) in
            subst (IsLast (y ∷ xs)) z (record { x = y; at = refl; hit = t; later = at_first f })
        by (suc n) b f t e r =
            let z : suc n ≡ j = omega (arith, e) in
            subst (IsLast (y ∷ xs)) z (further n (r n f))

pub contains_cons : (xs : List ℕ) (x y : ℕ) → Contains (y ∷ xs) x → (y ≡ x) ⊎ Contains xs x
contains_cons xs x y (zero, l, e) = inl e
contains_cons xs x y (suc k, l, e) = inr (k, omega (arith, l), e)

pub contains_front : (xs : List ℕ) (x y : ℕ) → y ≡ x → Contains (y ∷ xs) x
contains_front xs x y e = (0, omega arith, e)

pub contains_behind : (xs : List ℕ) (x y : ℕ) → Contains xs x → Contains (y ∷ xs) x
contains_behind xs x y (k, l, e) = (suc k, omega (arith, l), e)

pub contains_none : (x : ℕ) → Contains [] x → ⊥
contains_none x (k, l, e) = omega (arith, l)
