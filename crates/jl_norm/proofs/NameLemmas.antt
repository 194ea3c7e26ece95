-- Names in a list.
use Rattle.std.proofs.Common.{◌≡◌, ◌∙◌, sym, ap, refl, ℕ, zero, suc, ◌+◌, ◌<◌, arith, add-one, ⊎_elim, Bool, true, false, true≢false, List, [], ◌∷◌, map, length, length-take, take, drop, get_or, get_or-take, set, get_or-set_same, get_or-set_other, below_more, None, Some, slice_get, slice_index_or}
use Rattle.std.specs.List.{Contains}
use Rattle.std.proofs.lemmas.Bool.{cases_eq}
use Rattle.std.proofs.lemmas.List.{length-map}
use Rattle.jl_norm.specs.Slots.{slot_of}

module _ {A : Type 0} (g : A → List ℕ) where
  name_at : (xs : List A) (i : ℕ) (x : A) (n : List ℕ) → i < length xs → x ≡ get_or xs i x → slice_index_or (map g xs) i n ≡ g x
  name_at [] i x n h e = absurd (omega arith)
  name_at (y ∷ xs) zero x n h e = ap g (sym e)
  name_at (y ∷ xs) (suc i) x n h e = name_at xs i x n (omega arith) e

  pub found : (xs : List A) (i : ℕ) (x : A) (n : List ℕ) → i < length xs → x ≡ get_or xs i x → g x ≡ n → Contains (map g xs) n
  found xs i x n h e f = (i, omega (arith, length-map xs g), name_at xs i x n h e ∙ f)

  first_or : (m : List ℕ) (ns : List (List ℕ)) (n : List ℕ) → (m ≡ n → ⊥) → Contains (m ∷ ns) n → Contains ns n
  first_or m ns n f (zero, l, e) = absurd (f e)
  first_or m ns n f (suc k, l, e) = (k, omega arith, e)

  pub passed : (xs : List A) (i : ℕ) (x : A) (n : List ℕ) → i < length xs → x ≡ get_or xs i x → (g x ≡ n → ⊥) → Contains (map g (drop i xs)) n → Contains (map g (drop (i + 1) xs)) n
  passed [] i x n h e f c = absurd (omega arith)
  passed (y ∷ xs) zero x n h e f c = first_or (g y) (map g xs) n (λ k. f (ap g e ∙ k)) c
  passed (y ∷ xs) (suc i) x n h e f c = rw add-one (rw add-one at (passed xs i x n (omega arith) e f c))

  -- an element by its place
  pub got : (xs : List A) (i : ℕ) (x : A) → slice_get xs i ≡ Some x → (i < length xs) × (x ≡ get_or xs i x)
  got [] i x e = let f : None ≡ Some x = e in cc
  got (y ∷ xs) zero x e = let f : Some y ≡ Some x = e in let h : x ≡ y = cc in (omega arith, h)
  got (y ∷ xs) (suc i) x e = let r = got xs i x e in (omega (arith, r.0), r.1)

-- two of them are the same
abbrev pub TwoPlaces : List (List ℕ) → Type 0
TwoPlaces ns = (i : ℕ) × (j : ℕ) × (i < j) × (j < length ns) × (get_or ns i [] ≡ get_or ns j [])

get_same : (ns : List (List ℕ)) (k : ℕ) (m n : List ℕ) → k < length ns → slice_index_or ns k m ≡ get_or ns k n
get_same [] k m n h = absurd (omega arith)
get_same (x ∷ ns) zero m n h = refl
get_same (x ∷ ns) (suc k) m n h = get_same ns k m n (omega arith)

-- no two of those below n are the same
abbrev pub AreDistinctBelow : List (List ℕ) → ℕ → Type 0
AreDistinctBelow ns n = (i j : ℕ) → i < j → j < n → get_or ns i [] ≡ get_or ns j [] → ⊥

-- each of those below n has marked its slot
abbrev pub SlotsTaken : List Bool → List (List ℕ) → ℕ → Type 0
SlotsTaken taken ns n = (j : ℕ) → j < n → get_or taken (slot_of (get_or ns j [])) false ≡ true

module _ (ns : List (List ℕ)) (n : ℕ) where
  -- the name at n differs from those before it
  abbrev pub IsNewAt : Type 0
  IsNewAt = (j : ℕ) → j < n → get_or ns j [] ≡ get_or ns n [] → ⊥

  pub twin_before : n < length ns → Contains (take n ns) (get_or ns n []) → TwoPlaces ns
  twin_before h c =
      let below : c.0 < n = omega (arith, length-take n ns, c.1) in
      (c.0, n, below, h, sym (get_or-take n ns c.0 [] below) ∙ sym (get_same (take n ns) c.0 (get_or ns n []) [] c.1) ∙ c.2)

  pub new_by_names : n < length ns → (Contains (take n ns) (get_or ns n []) → ⊥) → IsNewAt
  new_by_names h none j l e =
      let inside : j < length (take n ns) = omega (arith, length-take n ns) in
      none (j, inside, get_same (take n ns) j (get_or ns n []) [] inside ∙ get_or-take n ns j [] l ∙ e)

  pub distinct_more : AreDistinctBelow ns n → IsNewAt → AreDistinctBelow ns (n + 1)
  distinct_more so_far new i j l m = below_more (λ k. i < k → get_or ns i [] ≡ get_or ns k [] → ⊥) n (λ k b a. so_far i k a b) (new i) j m l

  module _ (taken : List Bool) (so_far : SlotsTaken taken ns n) where
    -- a name before it that is the same would have taken its slot
    pub new_by_slot : get_or taken (slot_of (get_or ns n [])) false ≡ false → IsNewAt
    new_by_slot free j l e = true≢false (sym (so_far j l) ∙ ap (λ m. get_or taken (slot_of m) false) e ∙ free)

    stays : (a b : ℕ) → a < length taken → get_or taken b false ≡ true → get_or (set taken a true) b false ≡ true
    stays a b h was =
        ⊎_elim
        (λ same. ap (λ k. get_or (set taken a true) k false) same ∙ get_or-set_same taken a true false h)
        (λ other. get_or-set_other taken a b true false other ∙ was)
        (cases_eq b a)

    pub slots_more : slot_of (get_or ns n []) < length taken → SlotsTaken (set taken (slot_of (get_or ns n [])) true) ns (n + 1)
    slots_more h =
        let mine = slot_of (get_or ns n []) in
        below_more (λ j. get_or (set taken mine true) (slot_of (get_or ns j [])) false ≡ true) n
        (λ j l. stays mine (slot_of (get_or ns j [])) h (so_far j l))
        (get_or-set_same taken mine true false h)
