-- What is in lists that are made of others.
use Rattle.std.proofs.Common.{◌≡◌, ◌∙◌, sym, ap, subst, refl, ℕ, zero, suc, ◌⊎◌, inl, inr, Bool, true, false, cond, List, [], ◌∷◌, ◌++◌, map, take, drop}
use Rattle.std.specs.List.{Contains, flat_map, filter}
use Rattle.std.proofs.lemmas.List.Elements.{Contains-append_left, Contains-append_right, Contains-append_cases}
use Rattle.jl_methods.proofs.FilterLemmas.{here, there, here_or_there, none_there}

module _ {X : Type 0} where
  pub empty : (x : X) → Contains [] x → ⊥
  empty x c = none_there x [] refl c

  pub in_take : (n : ℕ) (xs : List X) (y : X) → Contains (take n xs) y → Contains xs y
  in_take zero xs y c = absurd (empty y c)
  in_take (suc n) [] y c = c
  in_take (suc n) (x ∷ xs) y c = by (in_take n xs y) (here_or_there x y (take n xs) c)
    where
      by : (Contains (take n xs) y → Contains xs y) → (x ≡ y) ⊎ Contains (take n xs) y → Contains (x ∷ xs) y
      by more (inl e) = here x y xs e
      by more (inr d) = there x y xs (more d)

  pub in_drop : (n : ℕ) (xs : List X) (y : X) → Contains (drop n xs) y → Contains xs y
  in_drop zero xs y c = c
  in_drop (suc n) [] y c = c
  in_drop (suc n) (x ∷ xs) y c = there x y xs (in_drop n xs y c)

  pub in_part : (n : ℕ) (xs : List X) (y : X) → Contains xs y → Contains (take n xs) y ⊎ Contains (drop n xs) y
  in_part zero xs y c = inr c
  in_part (suc n) [] y c = inl c
  in_part (suc n) (x ∷ xs) y c = by (in_part n xs y) (here_or_there x y xs c)
    where
      later : Contains (take n xs) y ⊎ Contains (drop n xs) y → Contains (x ∷ take n xs) y ⊎ Contains (drop n xs) y
      later (inl d) = inl (there x y (take n xs) d)
      later (inr d) = inr d

      by : (Contains xs y → Contains (take n xs) y ⊎ Contains (drop n xs) y) → (x ≡ y) ⊎ Contains xs y → Contains (x ∷ take n xs) y ⊎ Contains (drop n xs) y
      by more (inl e) = inl (here x y (take n xs) e)
      by more (inr d) = later (more d)

  -- ---- with one more put at a place

  pub put_new : (i : ℕ) (xs : List X) (x : X) → Contains (take i xs ++ x ∷ drop i xs) x
  put_new i xs x = Contains-append_right (take i xs) (x ∷ drop i xs) x (here x x (drop i xs) refl)

  pub put_old : (i : ℕ) (xs : List X) (x y : X) → Contains xs y → Contains (take i xs ++ x ∷ drop i xs) y
  put_old i xs x y c = by (in_part i xs y c)
    where
      by : Contains (take i xs) y ⊎ Contains (drop i xs) y → Contains (take i xs ++ x ∷ drop i xs) y
      by (inl d) = Contains-append_left (take i xs) (x ∷ drop i xs) y d
      by (inr d) = Contains-append_right (take i xs) (x ∷ drop i xs) y (there x y (drop i xs) d)

  pub put_was : (i : ℕ) (xs : List X) (x y : X) → Contains (take i xs ++ x ∷ drop i xs) y → Contains xs y ⊎ (x ≡ y)
  put_was i xs x y c = by (Contains-append_cases (take i xs) (x ∷ drop i xs) y c)
    where
      later : (x ≡ y) ⊎ Contains (drop i xs) y → Contains xs y ⊎ (x ≡ y)
      later (inl e) = inr e
      later (inr d) = inl (in_drop i xs y d)

      by : Contains (take i xs) y ⊎ Contains (x ∷ drop i xs) y → Contains xs y ⊎ (x ≡ y)
      by (inl d) = inl (in_take i xs y d)
      by (inr d) = later (here_or_there x y (drop i xs) d)

  -- ---- with a test

  module _ (p : X → Bool) where
    pub in_filter : (xs : List X) (y : X) → Contains (filter p xs) y → Contains xs y
    in_filter [] y c = c
    in_filter (x ∷ xs) y c = by (in_filter xs y) (p x) c
      where
        later : (Contains (filter p xs) y → Contains xs y) → (x ≡ y) ⊎ Contains (filter p xs) y → Contains (x ∷ xs) y
        later more (inl e) = here x y xs e
        later more (inr d) = there x y xs (more d)

        by : (Contains (filter p xs) y → Contains xs y) → (b : Bool) → Contains (cond b (x ∷ filter p xs) (filter p xs)) y → Contains (x ∷ xs) y
        by more true d = later more (here_or_there x y (filter p xs) d)
        by more false d = there x y xs (more d)

    pub filter_has : (xs : List X) (y : X) → Contains xs y → p y ≡ true → Contains (filter p xs) y
    filter_has [] y c t = c
    filter_has (x ∷ xs) y c t = by (λ d. filter_has xs y d t) (here_or_there x y xs c)
      where
        at : (b : Bool) → b ≡ true → (x ≡ y) → Contains (cond b (x ∷ filter p xs) (filter p xs)) y
        at true q e = here x y (filter p xs) e
        at false q e = cc

        past : (b : Bool) → Contains (filter p xs) y → Contains (cond b (x ∷ filter p xs) (filter p xs)) y
        past true d = there x y (filter p xs) d
        past false d = d

        by : (Contains xs y → Contains (filter p xs) y) → (x ≡ y) ⊎ Contains xs y → Contains (cond (p x) (x ∷ filter p xs) (filter p xs)) y
        by more (inl e) = at (p x) (ap p e ∙ t) e
        by more (inr d) = past (p x) (more d)

module _ {X Y : Type 0} where
  pub in_map : (f : X → Y) (xs : List X) (x : X) → Contains xs x → Contains (map f xs) (f x)
  in_map f [] x c = absurd (empty x c)
  in_map f (z ∷ xs) x c = by (in_map f xs x) (here_or_there z x xs c)
    where
      by : (Contains xs x → Contains (map f xs) (f x)) → (z ≡ x) ⊎ Contains xs x → Contains (f z ∷ map f xs) (f x)
      by more (inl e) = here (f z) (f x) (map f xs) (ap f e)
      by more (inr d) = there (f z) (f x) (map f xs) (more d)

  pub of_map : (f : X → Y) (xs : List X) (y : Y) → Contains (map f xs) y → (x : X) × Contains xs x × (f x ≡ y)
  of_map f [] y c = absurd (empty y c)
  of_map f (z ∷ xs) y c = by (of_map f xs y) (here_or_there (f z) y (map f xs) c)
    where
      later : (x : X) × Contains xs x × (f x ≡ y) → (x : X) × Contains (z ∷ xs) x × (f x ≡ y)
      later (x, d, e) = (x, there z x xs d, e)

      by : (Contains (map f xs) y → (x : X) × Contains xs x × (f x ≡ y)) → (f z ≡ y) ⊎ Contains (map f xs) y → (x : X) × Contains (z ∷ xs) x × (f x ≡ y)
      by more (inl e) = (z, here z z xs refl, e)
      by more (inr d) = later (more d)

  pub in_flat : (f : X → List Y) (xs : List X) (x : X) (y : Y) → Contains xs x → Contains (f x) y → Contains (flat_map f xs) y
  in_flat f [] x y c d = absurd (empty x c)
  in_flat f (z ∷ xs) x y c d = by (λ k. in_flat f xs x y k d) (here_or_there z x xs c)
    where
      by : (Contains xs x → Contains (flat_map f xs) y) → (z ≡ x) ⊎ Contains xs x → Contains (f z ++ flat_map f xs) y
      by more (inl e) = Contains-append_left (f z) (flat_map f xs) y (subst (λ w. Contains (f w) y) (sym e) d)
      by more (inr k) = Contains-append_right (f z) (flat_map f xs) y (more k)

  pub of_flat : (f : X → List Y) (xs : List X) (y : Y) → Contains (flat_map f xs) y → (x : X) × Contains xs x × Contains (f x) y
  of_flat f [] y c = absurd (empty y c)
  of_flat f (z ∷ xs) y c = by (of_flat f xs y) (Contains-append_cases (f z) (flat_map f xs) y c)
    where
      later : (x : X) × Contains xs x × Contains (f x) y → (x : X) × Contains (z ∷ xs) x × Contains (f x) y
      later (x, d, e) = (x, there z x xs d, e)

      by : (Contains (flat_map f xs) y → (x : X) × Contains xs x × Contains (f x) y) → Contains (f z) y ⊎ Contains (flat_map f xs) y → (x : X) × Contains (z ∷ xs) x × Contains (f x) y
      by more (inl e) = (z, here z z xs refl, e)
      by more (inr d) = later (more d)
