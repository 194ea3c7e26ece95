-- Lists in order: one more put at its place, parts of them, and lists that are made of them.
use Rattle.std.proofs.Common.{◌≡◌, ◌∙◌, sym, ap, subst, refl, ℕ, zero, suc, ◌+◌, ◌<◌, ◌≤◌, ◌⊎◌, inl, inr, arith, List, [], ◌∷◌, ◌++◌, length, take, drop, get_or}
use Rattle.std.specs.List.{All, AllByRecursion, Contains}
use Rattle.std.specs.List.Sorted.{IsStrictlySortedBy}
use Rattle.std.specs.Cmp.{IsTotalOrder}
use Rattle.std.specs.Ordering.{ordering_reverse}
use Rattle.std.specs.declared.cmp.Ordering.{Ordering}
use Rattle.std.specs.declared.cmp.Ordering.TheVariants.{Less, Equal, Greater}
use Rattle.std.proofs.lemmas.List.{take_all}
use Rattle.std.proofs.lemmas.List.Elements.{All-contains, All-more, Contains-get_or, Contains-append_cases}
use Rattle.std.proofs.Math.Seq.{drop-cons, drop-length, take-length}
use Rattle.jl_methods.proofs.FilterLemmas.{here, there, here_or_there}
use Rattle.jl_ambig.specs.Asked.{IsThere, IsPlaceFor}
use Rattle.jl_ambig.proofs.Members.{empty, in_take, in_drop}

all_at : {X : Type 0} (P : X → Type 0) (xs : List X) → AllByRecursion P xs → (y : X) → Contains xs y → P y
all_at P [] h y c = absurd (empty y c)
all_at P (x ∷ xs) h y c = by (all_at P xs h.1 y) (here_or_there x y xs c)
  where
    by : (Contains xs y → P y) → (x ≡ y) ⊎ Contains xs y → P y
    by more (inl e) = subst P e h.0
    by more (inr d) = more d

all_of : {X : Type 0} (P : X → Type 0) (xs : List X) → ((y : X) → Contains xs y → P y) → AllByRecursion P xs
all_of P [] f = tt
all_of P (x ∷ xs) f = (f x (here x x xs refl), all_of P xs (λ y c. f y (there x y xs c)))

pub every_index : {X : Type 0} (P : X → Type 0) (xs : List X) → ((y : X) → Contains xs y → P y) → All P xs
every_index P xs f = λ k d l. f (get_or xs k d) (Contains-get_or xs k d l)

module _ {X : Type 0} (cmp : X → X → Ordering) where
  -- each comes before all that are after it
  abbrev pub Rises : List X → Type 0
  Rises [] = Unit {0}
  Rises (x ∷ xs) = ((y : X) → Contains xs y → cmp x y ≡ Less) × Rises xs

  pub to_rises : (xs : List X) → IsStrictlySortedBy cmp xs → Rises xs
  unfolding IsStrictlySortedBy
  to_rises [] h = tt
  to_rises (x ∷ xs) h = (λ y c. all_at (λ z. cmp x z ≡ Less) xs h.0 y c, to_rises xs h.1)

  pub from_rises : (xs : List X) → Rises xs → IsStrictlySortedBy cmp xs
  unfolding IsStrictlySortedBy
  from_rises [] h = tt
  from_rises (x ∷ xs) h = (all_of (λ z. cmp x z ≡ Less) xs h.0, from_rises xs h.1)

  pub rises_take : (n : ℕ) (xs : List X) → Rises xs → Rises (take n xs)
  rises_take zero xs h = tt
  rises_take (suc n) [] h = tt
  rises_take (suc n) (x ∷ xs) h = (λ y c. h.0 y (in_take n xs y c), rises_take n xs h.1)

  pub rises_drop : (n : ℕ) (xs : List X) → Rises xs → Rises (drop n xs)
  rises_drop zero xs h = h
  rises_drop (suc n) [] h = tt
  rises_drop (suc n) (x ∷ xs) h = rises_drop n xs h.1

  pub rises_cut : (n : ℕ) (xs : List X) → Rises xs → (u v : X) → Contains (take n xs) u → Contains (drop n xs) v → cmp u v ≡ Less
  rises_cut zero xs h u v c d = absurd (empty u c)
  rises_cut (suc n) [] h u v c d = absurd (empty u c)
  rises_cut (suc n) (x ∷ xs) h u v c d = by (λ k. rises_cut n xs h.1 u v k d) (here_or_there x u (take n xs) c)
    where
      by : (Contains (take n xs) u → cmp u v ≡ Less) → (x ≡ u) ⊎ Contains (take n xs) u → cmp u v ≡ Less
      by more (inl e) = subst (λ z. cmp z v ≡ Less) e (h.0 v (in_drop n xs v d))
      by more (inr k) = more k

  pub rises_append : (xs ys : List X) → Rises xs → Rises ys → ((x y : X) → Contains xs x → Contains ys y → cmp x y ≡ Less) → Rises (xs ++ ys)
  rises_append [] ys h k f = k
  rises_append (x ∷ xs) ys h k f = (λ y c. by y (Contains-append_cases xs ys y c), rises_append xs ys h.1 k (λ u v c d. f u v (there x u xs c) d))
    where
      by : (y : X) → Contains xs y ⊎ Contains ys y → cmp x y ≡ Less
      by y (inl c) = h.0 y c
      by y (inr c) = f x y (here x x xs refl) c

  -- with one more put at its place
  pub rises_put : (i : ℕ) (xs : List X) (x : X) → Rises xs → ((y : X) → Contains (take i xs) y → cmp y x ≡ Less) → ((y : X) → Contains (drop i xs) y → cmp x y ≡ Less)
      → Rises (take i xs ++ x ∷ drop i xs)
  rises_put i xs x h low high = rises_append (take i xs) (x ∷ drop i xs) (rises_take i xs h) (high, rises_drop i xs h) by_parts
    where
      by_parts : (u v : X) → Contains (take i xs) u → Contains (x ∷ drop i xs) v → cmp u v ≡ Less
      by_parts u v c d = by (here_or_there x v (drop i xs) d)
        where
          by : (x ≡ v) ⊎ Contains (drop i xs) v → cmp u v ≡ Less
          by (inl e) = subst (λ z. cmp u z ≡ Less) e (low u c)
          by (inr k) = rises_cut i xs h u v c k

  pub sorted_put : (i : ℕ) (xs : List X) (x : X) → IsStrictlySortedBy cmp xs → IsPlaceFor cmp x xs i → IsStrictlySortedBy cmp (take i xs ++ x ∷ drop i xs)
  sorted_put i xs x h p =
      from_rises (take i xs ++ x ∷ drop i xs)
      (rises_put i xs x (to_rises xs h) (λ y c. All-contains (λ z. cmp z x ≡ Less) (take i xs) y p.before c) (λ y c. All-contains (λ z. cmp x z ≡ Less) (drop i xs) y p.after c))

  -- ---- the place is sought

  pub passed : (x : X) (xs : List X) (i : ℕ) (d : X) → i < length xs → All (λ y. cmp y x ≡ Less) (take i xs) → cmp (get_or xs i d) x ≡ Less → All (λ y. cmp y x ≡ Less) (take (i + 1) xs)
  passed x xs i d l h e = All-more (λ y. cmp y x ≡ Less) xs i d l h e

  pub tied_there : (x : X) (xs : List X) (i : ℕ) (d : X) → i < length xs → cmp (get_or xs i d) x ≡ Equal → IsThere cmp x xs
  tied_there x xs i d l e = (get_or xs i d, Contains-get_or xs i d l, e)

  pub place_end : (x : X) (xs : List X) (i : ℕ) → length xs ≤ i → All (λ y. cmp y x ≡ Less) (take i xs) → IsPlaceFor cmp x xs (length xs)
  place_end x xs i l h = record {
    within = omega arith;
    before = subst (All (λ y. cmp y x ≡ Less)) (take_all i xs l ∙ sym (take-length xs)) h;
    after = subst (All (λ y. cmp x y ≡ Less)) (sym (drop-length xs)) (every_index (λ y. cmp x y ≡ Less) [] (λ y c. absurd (empty y c)));
  }

  module _ (o : IsTotalOrder cmp) where
    pub flip : (x y : X) → cmp x y ≡ Greater → cmp y x ≡ Less
    flip x y e = o.antisymm y x ∙ ap ordering_reverse e

    pub place_here : (x : X) (xs : List X) (i : ℕ) (d : X) → i < length xs → IsStrictlySortedBy cmp xs → All (λ y. cmp y x ≡ Less) (take i xs) → cmp (get_or xs i d) x ≡ Greater → IsPlaceFor cmp x xs i
    place_here x xs i d l s h e = record { within = omega (arith, l); before = h; after = every_index (λ y. cmp x y ≡ Less) (drop i xs) later }
      where
        first : X
        first = get_or xs i d

        split : drop i xs ≡ first ∷ drop (suc i) xs
        split = drop-cons xs i d l

        low : cmp x first ≡ Less
        low = flip first x e

        rest : Rises (first ∷ drop (suc i) xs)
        rest = subst Rises split (rises_drop i xs (to_rises xs s))

        later : (y : X) → Contains (drop i xs) y → cmp x y ≡ Less
        later y c = by (here_or_there first y (drop (suc i) xs) (subst (λ zs. Contains zs y) split c))
          where
            by : (first ≡ y) ⊎ Contains (drop (suc i) xs) y → cmp x y ≡ Less
            by (inl q) = subst (λ z. cmp x z ≡ Less) q low
            by (inr k) = o.trans x first y low (rest.0 y k)
