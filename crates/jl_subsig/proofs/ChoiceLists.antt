-- Lists of methods that rise, and what the tests over them find.
use Rattle.std.proofs.Common.{◌≡◌, ◌∙◌, sym, ap, subst, refl, ℕ, suc, ◌<◌, slice_index_or, ◌≤◌, ◌⊎◌, inl, inr, arith, Bool, true, false, ◌&&◌, ◌||◌, cond, List, [], ◌∷◌, map, length, None, Some}
use Rattle.std.specs.List.{list_all, list_any, find}
use Rattle.std.specs.List.Sorted.{IsStrictlyIncreasing}
use Rattle.std.proofs.lemmas.List.Kept.{AllPairs-from_increasing}
use Rattle.jl_subsig.specs.declared.choice.Ranked.{Ranked}
use Rattle.jl_subsig.specs.Decide.{same_sig, candidates}

pub both : (b c : Bool) → (b && c) ≡ true → (b ≡ true) × (c ≡ true)
both true c h = (refl, h)
both false c h = let e : false ≡ true = h in cc

-- a definition of a list
abbrev pub In : List Ranked → Ranked → Type 0
In [] d = ⊥
In (e ∷ es) d = (e ≡ d) ⊎ In es d

-- each one's world is below those of all later ones
abbrev pub Rises : List Ranked → Type 0
Rises [] = Unit {0}
Rises (d ∷ ds) = ((e : Ranked) → In ds e → d.number < e.number) × Rises ds

-- ---- numbers that increase

abbrev pub numbers_of : List Ranked → List ℕ
numbers_of ds = map (λ d. d.number) ds

pairs_rise : (ds : List Ranked) → ((i j : ℕ) (d : ℕ) → i < j → j < length (numbers_of ds) → slice_index_or (numbers_of ds) i d < slice_index_or (numbers_of ds) j d) → Rises ds
pairs_rise [] h = tt
pairs_rise (d ∷ ds) h = (head, pairs_rise ds (λ i j e l r. h (suc i) (suc j) e (omega arith) (omega arith)))
  where
    place : (ds : List Ranked) (e : Ranked) → In ds e → (k : ℕ) × (k < length (numbers_of ds)) × (slice_index_or (numbers_of ds) k 0 ≡ e.number)
    place [] e h = absurd h
    place (f ∷ fs) e (inl i) = (0, omega arith, ap (λ d. d.number) i)
    place (f ∷ fs) e (inr i) = let (k, l, q) = place fs e i in (suc k, omega arith, q)

    head : (e : Ranked) → In ds e → d.number < e.number
    head e i = let (k, l, q) = place ds e i in let r = h 0 (suc k) 0 (omega arith) (omega arith) in omega (arith, q, r)

pub rises : (ds : List Ranked) → IsStrictlyIncreasing (numbers_of ds) → Rises ds
rises ds h = pairs_rise ds (AllPairs-from_increasing (numbers_of ds) h)

-- ---- tests over lists

module _ (p : Ranked → Bool) where
  pub any_from : (ds : List Ranked) (d : Ranked) → In ds d → p d ≡ true → list_any p ds ≡ true
  any_from [] d h k = absurd h
  any_from (e ∷ es) d (inl h) k = let q : p e ≡ true = ap p h ∙ k in rw q refl
  any_from (e ∷ es) d (inr h) k = rw (any_from es d h k) (last (p e))
    where
      last : (b : Bool) → (b || true) ≡ true
      last true = refl
      last false = refl

  pub any_to : (ds : List Ranked) → list_any p ds ≡ true → (d : Ranked) × In ds d × (p d ≡ true)
  any_to [] h = cc
  any_to (e ∷ es) h = cases (any_to es) (p e) refl
    where
      cases : (list_any p es ≡ true → (d : Ranked) × In es d × (p d ≡ true)) → (b : Bool) → p e ≡ b → (d : Ranked) × In (e ∷ es) d × (p d ≡ true)
      cases rest true q = (e, inl refl, q)
      cases rest false q =
          let r : (false || list_any p es) ≡ true = subst (λ b. (b || list_any p es) ≡ true) q h in
          let (d, i, s) = rest r in (d, inr i, s)

  pub all_to : (ds : List Ranked) → list_all p ds ≡ true → (d : Ranked) → In ds d → p d ≡ true
  all_to [] h d i = absurd i
  all_to (e ∷ es) h d (inl i) = let (q, r) = both (p e) (list_all p es) h in ap p (sym i) ∙ q
  all_to (e ∷ es) h d (inr i) = let (q, r) = both (p e) (list_all p es) h in all_to es r d i

  pub all_from : (ds : List Ranked) → ((d : Ranked) → In ds d → p d ≡ true) → list_all p ds ≡ true
  all_from [] h = refl
  all_from (e ∷ es) h = rw (h e (inl refl)) (all_from es (λ d i. h d (inr i)))

  -- what a search finds is in the list, passes, and is the first that does
  pub record Finds (ds : List Ranked) (d : Ranked) : Type 0 where
    pub is_in : In ds d
    pub passes : p d ≡ true
    pub first : (e : Ranked) → In ds e → p e ≡ true → d.number ≤ e.number

  pub find_some : (ds : List Ranked) (d : Ranked) → Rises ds → find p ds ≡ Some d → Finds ds d
  find_some [] d r h = cc
  find_some (e ∷ es) d (later, r) h = cases (find_some es d r) (p e) refl
    where
      cases : (find p es ≡ Some d → Finds es d) → (b : Bool) → p e ≡ b → Finds (e ∷ es) d
      cases rest true q =
          let i : e ≡ d = let w : Some e ≡ Some d = subst (λ b. cond b (Some e) (find p es) ≡ Some d) q h in cc in
          let least : (f : Ranked) → In (e ∷ es) f → p f ≡ true → d.number ≤ f.number = λ f j s. first_one f j i in
          record { is_in = inl i; passes = ap p (sym i) ∙ q; first = least }
        where
          first_one : (f : Ranked) → In (e ∷ es) f → e ≡ d → d.number ≤ f.number
          first_one f (inl j) i = let k : d.number ≡ f.number = ap (λ z. z.number) (sym i ∙ j) in omega arith
          first_one f (inr j) i = let k : e.number ≡ d.number = ap (λ z. z.number) i in let l = later f j in omega arith
      cases rest false q =
          let w : find p es ≡ Some d = subst (λ b. cond b (Some e) (find p es) ≡ Some d) q h in
          let k = rest w in
          record { is_in = inr k.is_in; passes = k.passes; first = λ f j s. next f j s k q }
        where
          next : (f : Ranked) → In (e ∷ es) f → p f ≡ true → Finds es d → p e ≡ false → d.number ≤ f.number
          next f (inl j) s k q = let z : false ≡ true = sym q ∙ ap p j ∙ s in cc
          next f (inr j) s k q = k.first f j s

  pub find_none : (ds : List Ranked) → find p ds ≡ None → (d : Ranked) → In ds d → p d ≡ true → ⊥
  find_none [] h d i k = i
  find_none (e ∷ es) h d i k = cases (λ w j. find_none es w d j k) (p e) refl
    where
      cases : (find p es ≡ None → In es d → ⊥) → (b : Bool) → p e ≡ b → ⊥
      cases rest true q = let w : Some e ≡ None = subst (λ b. cond b (Some e) (find p es) ≡ None) q h in cc
      cases rest false q = next i (subst (λ b. cond b (Some e) (find p es) ≡ None) q h)
        where
          next : In (e ∷ es) d → find p es ≡ None → ⊥
          next (inl j) w = let z : false ≡ true = sym q ∙ ap p j ∙ k in cc
          next (inr j) w = rest w j

-- ---- candidates

module _ (P : List (List Bool)) where
  -- a definition that applies, and no later one has its signature
  pub record Stands (ds : List Ranked) (d : Ranked) : Type 0 where
    pub is_in : In ds d
    pub last : (e : Ranked) → In ds e → d.number < e.number → same_sig P d e ≡ true → ⊥

  wider : (d : Ranked) (ds : List Ranked) (e : Ranked) → ((f : Ranked) → In ds f → d.number < f.number) → Stands ds e → Stands (d ∷ ds) e
  wider d ds e later s = record { is_in = inr s.is_in; last = still }
    where
      still : (f : Ranked) → In (d ∷ ds) f → e.number < f.number → same_sig P e f ≡ true → ⊥
      still f (inl i) l k = let q : d.number ≡ f.number = ap (λ z. z.number) i in let r = later e s.is_in in omega arith
      still f (inr i) l k = s.last f i l k

  pub stands_from_kept : (ds : List Ranked) (d : Ranked) → Rises ds → In (candidates P ds) d → Stands ds d
  stands_from_kept [] d r h = absurd h
  stands_from_kept (e ∷ es) d (later, r) h = cases (λ i. wider e es d later (stands_from_kept es d r i)) (list_any (same_sig P e) es) refl
    where
      first : list_any (same_sig P e) es ≡ false → Stands (e ∷ es) e
      first q = record { is_in = inl refl; last = λ f i l s. last_one q f i l s }
        where
          last_one : list_any (same_sig P e) es ≡ false → (f : Ranked) → In (e ∷ es) f → e.number < f.number → same_sig P e f ≡ true → ⊥
          last_one q f (inl i) l s = let k : e.number ≡ f.number = ap (λ z. z.number) i in omega arith
          last_one q f (inr i) l s = let z : true ≡ false = sym (any_from (same_sig P e) es f i s) ∙ q in cc

      here_or : (In (candidates P es) d → Stands (e ∷ es) d) → list_any (same_sig P e) es ≡ false → In (e ∷ candidates P es) d → Stands (e ∷ es) d
      here_or from_rest k (inl i) = subst (Stands (e ∷ es)) i (first k)
      here_or from_rest k (inr i) = from_rest i

      cases : (In (candidates P es) d → Stands (e ∷ es) d) → (b : Bool) → list_any (same_sig P e) es ≡ b → Stands (e ∷ es) d
      cases from_rest false q = here_or from_rest q (subst (λ b. In (cond b (candidates P es) (e ∷ candidates P es)) d) q h)
      cases from_rest true q = from_rest (subst (λ b. In (cond b (candidates P es) (e ∷ candidates P es)) d) q h)

  pub kept_from_stands : (ds : List Ranked) (d : Ranked) → Rises ds → Stands ds d → In (candidates P ds) d
  kept_from_stands [] d r s = s.is_in
  kept_from_stands (e ∷ es) d (later, r) s = by (kept_from_stands es d r) s.is_in
    where
      put : (b : Bool) → list_any (same_sig P e) es ≡ b → In (cond b (candidates P es) (e ∷ candidates P es)) d → In (candidates P (e ∷ es)) d
      put b q i = subst (λ b. In (cond b (candidates P es) (e ∷ candidates P es)) d) (sym q) i

      behind : (b : Bool) → In (candidates P es) d → In (cond b (candidates P es) (e ∷ candidates P es)) d
      behind false i = inr i
      behind true i = i

      none_later : e ≡ d → (b : Bool) → list_any (same_sig P e) es ≡ b → list_any (same_sig P e) es ≡ false
      none_later i false q = q
      none_later i true q =
          let (f, j, k) = any_to (same_sig P e) es q in
          absurd (s.last f (inr j) (subst (λ z. z.number < f.number) i (later f j)) (subst (λ z. same_sig P z f ≡ true) i k))

      by : (Stands es d → In (candidates P es) d) → In (e ∷ es) d → In (candidates P (e ∷ es)) d
      by rest (inl i) = put false (none_later i (list_any (same_sig P e) es) refl) (inl i)
      by rest (inr i) = put (list_any (same_sig P e) es) refl (behind (list_any (same_sig P e) es) (rest (record { is_in = i; last = λ f j l k. s.last f (inr j) l k })))

  pub kept_rises : (ds : List Ranked) → Rises ds → Rises (candidates P ds)
  kept_rises [] r = tt
  kept_rises (d ∷ ds) (later, r) = cases (kept_rises ds r) (list_any (same_sig P d) ds) refl
    where
      cases : Rises (candidates P ds) → (b : Bool) → list_any (same_sig P d) ds ≡ b → Rises (candidates P (d ∷ ds))
      cases rest false q =
          subst (λ b. Rises (cond b (candidates P ds) (d ∷ candidates P ds))) (sym q)
          ((λ e i. let s = stands_from_kept ds e r i in later e s.is_in), rest)
      cases rest true q = subst (λ b. Rises (cond b (candidates P ds) (d ∷ candidates P ds))) (sym q) rest
