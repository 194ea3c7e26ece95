-- What stays when each new one takes the place of that of its own number.
use Rattle.std.proofs.Common.{◌≡◌, ◌∙◌, ap, sym, subst, refl, ℕ, ◌+◌, ◌<◌, ◌≤◌, ◌⊎◌, inl, inr, arith, Bool, true, false, true≢false, not, nat_eq, cond, List, [], ◌∷◌, ◌++◌, append_assoc, append-nil, map}
use Rattle.std.specs.List.{Contains, filter}
use Rattle.std.proofs.lemmas.Bool.{eqb-true, eq-eqb}
use Rattle.std.proofs.lemmas.List.Elements.{Contains-append_left, Contains-append_right, Contains-append_cases}
use Rattle.jl_methods.specs.Latest.{renewed, HasLater, AreLatestOf}
use Rattle.jl_methods.specs.Numbered.{RisesFrom}
use Rattle.jl_methods.proofs.EachLemmas.{rises_less}
use Rattle.jl_methods.proofs.FilterLemmas.{here, there, here_or_there, none_there}

-- ---- what passes a test

filter_from : {X : Type 0} (t : X → Bool) (xs : List X) (x : X) → Contains (filter t xs) x → Contains xs x
filter_from t [] x c = c
filter_from {X} t (y ∷ xs) x c = by (t y) c (filter_from t xs x)
  where
    one : (y ≡ x) ⊎ Contains (filter t xs) x → (Contains (filter t xs) x → Contains xs x) → Contains (y ∷ xs) x
    one (inl e) more = here y x xs e
    one (inr d) more = there y x xs (more d)

    by : (b : Bool) → Contains (cond b (y ∷ filter t xs) (filter t xs)) x → (Contains (filter t xs) x → Contains xs x) → Contains (y ∷ xs) x
    by true d more = one (here_or_there y x (filter t xs) d) more
    by false d more = there y x xs (more d)

filter_passes : {X : Type 0} (t : X → Bool) (xs : List X) (x : X) → Contains (filter t xs) x → t x ≡ true
filter_passes t [] x c = absurd (none_there x [] refl c)
filter_passes {X} t (y ∷ xs) x c = by (t y) refl c (filter_passes t xs x)
  where
    one : t y ≡ true → (y ≡ x) ⊎ Contains (filter t xs) x → (Contains (filter t xs) x → t x ≡ true) → t x ≡ true
    one q (inl e) more = ap t (sym e) ∙ q
    one q (inr d) more = more d

    by : (b : Bool) → t y ≡ b → Contains (cond b (y ∷ filter t xs) (filter t xs)) x → (Contains (filter t xs) x → t x ≡ true) → t x ≡ true
    by true q d more = one q (here_or_there y x (filter t xs) d) more
    by false q d more = more d

filter_stay : {X : Type 0} (t : X → Bool) (xs : List X) (x : X) → t x ≡ true → Contains xs x → Contains (filter t xs) x
filter_stay t [] x e c = c
filter_stay {X} t (y ∷ xs) x e c = by (t y) refl (here_or_there y x xs c) (filter_stay t xs x e)
  where
    by : (b : Bool) → t y ≡ b → (y ≡ x) ⊎ Contains xs x → (Contains xs x → Contains (filter t xs) x) → Contains (cond b (y ∷ filter t xs) (filter t xs)) x
    by true q (inl d) more = here y x (filter t xs) d
    by true q (inr d) more = there y x (filter t xs) (more d)
    by false q (inl d) more = absurd (true≢false (sym e ∙ ap t (sym d) ∙ q))
    by false q (inr d) more = more d

module _ {X : Type 0} (number world : X → ℕ) where
  filter_rise : (t : X → Bool) (low : ℕ) (xs : List X) → RisesFrom low (map world xs) → RisesFrom low (map world (filter t xs))
  filter_rise t low [] r = tt
  filter_rise t low (x ∷ xs) r = by (t x) (filter_rise t (world x + 1) xs r.1)
    where
      by : (b : Bool) → RisesFrom (world x + 1) (map world (filter t xs)) → RisesFrom low (map world (cond b (x ∷ filter t xs) (filter t xs)))
      by true h = (r.0, h)
      by false h = rises_less low (world x + 1) (map world (filter t xs)) (omega (arith, r.0)) h

  push_rise : (low : ℕ) (xs : List X) (d : X) → low ≤ world d → RisesFrom low (map world xs) → ((x : X) → Contains xs x → world x < world d) → RisesFrom low (map world (xs ++ d ∷ []))
  push_rise low [] d l r b = (l, tt)
  push_rise low (x ∷ xs) d l r b =
      let w = b x (here x x xs refl) in (r.0, push_rise (world x + 1) xs d (omega (arith, w)) r.1 (λ y c. b y (there x y xs c)))

  -- ---- one more in place of those of its number

  module _ (d : X) where
    abbrev is_other : X → Bool
    is_other x = not (nat_eq (number x) (number d))

    is_last : (x : X) → Contains (d ∷ []) x → d ≡ x
    is_last x c = by (here_or_there d x [] c)
      where
        by : (d ≡ x) ⊎ Contains [] x → d ≡ x
        by (inl e) = e
        by (inr n) = absurd (none_there x [] refl n)

    renewed_there : (xs : List X) (x : X) → Contains (renewed number xs d) x → Contains xs x ⊎ (d ≡ x)
    renewed_there xs x c = by (Contains-append_cases (filter is_other xs) (d ∷ []) x c)
      where
        by : Contains (filter is_other xs) x ⊎ Contains (d ∷ []) x → Contains xs x ⊎ (d ≡ x)
        by (inl k) = inl (filter_from is_other xs x k)
        by (inr k) = inr (is_last x k)

    -- of those that were there it is one of another number
    renewed_from : (xs : List X) (x : X) → Contains (renewed number xs d) x → (Contains xs x × (number x ≡ number d → ⊥)) ⊎ (d ≡ x)
    renewed_from xs x c = by (Contains-append_cases (filter is_other xs) (d ∷ []) x c)
      where
        by : Contains (filter is_other xs) x ⊎ Contains (d ∷ []) x → (Contains xs x × (number x ≡ number d → ⊥)) ⊎ (d ≡ x)
        by (inl k) = inl (filter_from is_other xs x k, λ e. true≢false (sym (filter_passes is_other xs x k) ∙ ap not (eq-eqb (number x) (number d) e)))
        by (inr k) = inr (is_last x k)

    renewed_own : (xs : List X) → Contains (renewed number xs d) d
    renewed_own xs = Contains-append_right (filter is_other xs) (d ∷ []) d (here d d [] refl)

    renewed_stay : (xs : List X) (x : X) → Contains xs x → (number x ≡ number d) ⊎ Contains (renewed number xs d) x
    renewed_stay xs x c = by (nat_eq (number x) (number d)) refl
      where
        by : (b : Bool) → nat_eq (number x) (number d) ≡ b → (number x ≡ number d) ⊎ Contains (renewed number xs d) x
        by true e = inl (eqb-true (number x) (number d) e)
        by false e = inr (Contains-append_left (filter is_other xs) (d ∷ []) x (filter_stay is_other xs x (ap not e) c))

  -- ---- one more at the end

  module _ (Is : X → Type 0) (all some : List X) (h : AreLatestOf number world Is all some) (d : X) where
    -- it is of the kind
    pub latest_more : Is d → ((x : X) → Contains all x → world x < world d) → AreLatestOf number world Is (all ++ d ∷ []) (renewed number some d)
    latest_more is before = record {
      there = λ x c. stands x (renewed_there d some x c);
      covered = λ x c a. covers x a (Contains-append_cases all (d ∷ []) x c);
      latest = λ x e c k a q. is_latest x e a q (renewed_from d some x c) (Contains-append_cases all (d ∷ []) e k);
      rises = push_rise 0 (filter (is_other d) some) d (omega arith) (filter_rise (is_other d) 0 some h.rises) (λ x c. before x (h.there x (filter_from (is_other d) some x c)).0);
    }
      where
        stands : (x : X) → Contains some x ⊎ (d ≡ x) → Contains (all ++ d ∷ []) x × Is x
        stands x (inl c) = let t = h.there x c in (Contains-append_left all (d ∷ []) x t.0, t.1)
        stands x (inr e) = (Contains-append_right all (d ∷ []) x (here d x [] e), subst Is e is)

        is_latest : (x e : X) → Is e → number e ≡ number x → (Contains some x × (number x ≡ number d → ⊥)) ⊎ (d ≡ x) → Contains all e ⊎ Contains (d ∷ []) e → world e ≤ world x
        is_latest x e a q (inl c) (inl k) = h.latest x e c.0 k a q
        is_latest x e a q (inl c) (inr k) = absurd (c.1 (sym q ∙ ap number (sym (is_last d e k))))
        is_latest x e a q (inr s) (inl k) = let w = before e k in let t : world d ≡ world x = ap world s in omega (arith, w, t)
        is_latest x e a q (inr s) (inr k) = let t : world e ≡ world x = ap world (sym (is_last d e k) ∙ s) in omega (arith, t)

        keep : (x : X) → Contains all x → (l : HasLater number world some x) → (number l.by ≡ number d) ⊎ Contains (renewed number some d) l.by → HasLater number world (renewed number some d) x
        keep x c l (inl s) = record { by = d; stays = renewed_own d some; same = sym s ∙ l.same; later = (let w = before x c in omega (arith, w)) }
        keep x c l (inr k) = record { by = l.by; stays = k; same = l.same; later = l.later }

        covers : (x : X) → Is x → Contains all x ⊎ Contains (d ∷ []) x → HasLater number world (renewed number some d) x
        covers x a (inl c) = let l = h.covered x c a in keep x c l (renewed_stay d some l.by l.stays)
        covers x a (inr c) =
            let e = is_last d x c in
            record { by = d; stays = renewed_own d some; same = ap number e; later = (let w : world d ≡ world x = ap world e in omega (arith, w)) }
