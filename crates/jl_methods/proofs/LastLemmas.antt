-- The last world up to another, and the next one past it: of one list, of two kinds of worlds, and on a walk over lists.
use Rattle.std.proofs.Common.{◌≡◌, ◌∙◌, ap, sym, subst, refl, ℕ, zero, suc, ◌+◌, ◌-◌, ◌<◌, ◌≤◌, ◌⊎◌, inl, inr, max, min, arith, List, [], ◌∷◌, ◌++◌, length, take, get_or, Option, None, Some}
use Rattle.std.specs.Prelude.{◌↔◌}
use Rattle.std.specs.List.{Contains}
use Rattle.std.specs.List.Sorted.{IsStrictlyIncreasing}
use Rattle.std.proofs.Math.Nat.{le-max_left, le-max_right, max-eq_left, max-eq_right, max-le, min-eq_left, min-eq_right}
use Rattle.std.proofs.lemmas.List.{take_more, take_all}
use Rattle.std.proofs.lemmas.List.Elements.{Contains-get_or, Contains-append_left, Contains-append_right, Contains-append_cases}
use Rattle.jl_calculus.specs.declared.history.Del.{Del}
use Rattle.jl_methods.specs.Counted.{IsCountUpTo}
use Rattle.jl_methods.specs.Links.{AreNumbers, IsLast, IsNext, earlier, IsMadeBy, IsLastMade, AreLastDels}
use Rattle.jl_methods.specs.Numbered.{nth}
use Rattle.jl_methods.proofs.CountLemmas.{in_order}
use Rattle.jl_methods.proofs.FilterLemmas.{here, there, here_or_there, none_there}
use Rattle.jl_methods.proofs.UpLemmas.{contained_at}

which : (a b : ℕ) → (a ≤ b) ⊎ (b < a)
which a b = grind arith

-- ---- of a list in order, from how many are up to the world

module _ (ws : List ℕ) (w count : ℕ) (ordered : IsStrictlyIncreasing ws) (counted : IsCountUpTo ws w count) where
  pub last_none : count ≡ 0 → IsLast (λ x. Contains ws x) w 0
  last_none e = record {
    low = omega arith;
    none_later = λ d i l. (let (j, a, q) = contained_at ws d i in let m = counted.high j (omega (arith, e)) a in absurd (omega (arith, m, q, l)));
    there = inl refl;
  }

  last_place : (j : ℕ) → count ≡ suc j → IsLast (λ x. Contains ws x) w (get_or ws j 0)
  last_place j e = record {
    low = counted.low j (omega (arith, e));
    none_later = λ d i l. by d l (contained_at ws d i);
    there = inr (Contains-get_or ws j 0 within);
  }
    where
      within : j < length ws
      within = let l = counted.within in omega (arith, e, l)

      up : (k d : ℕ) → k < length ws → get_or ws k 0 ≡ d → d ≤ w → (count ≤ k) ⊎ (k < count) → d ≤ get_or ws j 0
      up k d a q l (inl c) = let m = counted.high k c a in absurd (omega (arith, m, q, l))
      up k d a q l (inr c) = let m = in_order ws ordered k j 0 (omega (arith, c, e)) within in omega (arith, m, q)

      by : (d : ℕ) → d ≤ w → (k : ℕ) × (k < length ws) × (get_or ws k 0 ≡ d) → d ≤ get_or ws j 0
      by d l (k, a, q) = up k d a q l (which count k)

  pub last_some : (count ≡ 0 → ⊥) → IsLast (λ x. Contains ws x) w (get_or ws (count - 1) 0)
  last_some z = by count refl
    where
      by : (n : ℕ) → count ≡ n → IsLast (λ x. Contains ws x) w (get_or ws (count - 1) 0)
      by zero e = absurd (z e)
      by (suc j) e = let at : j ≡ count - 1 = omega (arith, e) in subst (λ k. IsLast (λ x. Contains ws x) w (get_or ws k 0)) at (last_place j e)

  pub next_none : length ws ≤ count → IsNext (λ x. Contains ws x) w None
  next_none l = λ d i. (let (j, a, q) = contained_at ws d i in let m = counted.low j (omega (arith, a, l)) in omega (arith, m, q))

  pub next_some : count < length ws → IsNext (λ x. Contains ws x) w (Some (get_or ws count 0))
  next_some l = (counted.high count (omega arith) l, Contains-get_or ws count 0 l, λ d i lt. least d lt (contained_at ws d i))
    where
      up : (k d : ℕ) → k < length ws → get_or ws k 0 ≡ d → w < d → (count ≤ k) ⊎ (k < count) → get_or ws count 0 ≤ d
      up k d a q lt (inl c) = let m = in_order ws ordered count k 0 c a in omega (arith, m, q)
      up k d a q lt (inr c) = let m = counted.low k c in absurd (omega (arith, m, q, lt))

      least : (d : ℕ) → w < d → (k : ℕ) × (k < length ws) × (get_or ws k 0 ≡ d) → get_or ws count 0 ≤ d
      least d lt (k, a, q) = up k d a q lt (which count k)

-- ---- of two kinds together

module _ (A B C : ℕ → Type 0) (w : ℕ) (from : (d : ℕ) → C d → A d ⊎ B d) (left : (d : ℕ) → A d → C d) (right : (d : ℕ) → B d → C d) where
  pub last_both : (a b : ℕ) → IsLast A w a → IsLast B w b → IsLast C w (max a b)
  last_both a b h k = record { low = max-le h.low k.low; none_later = λ d c l. by d l (from d c); there = choose (which a b) }
    where
      by : (d : ℕ) → d ≤ w → A d ⊎ B d → d ≤ max a b
      by d l (inl i) = let m = h.none_later d i l in let n = le-max_left a b in omega (arith, m, n)
      by d l (inr i) = let m = k.none_later d i l in let n = le-max_right a b in omega (arith, m, n)

      to_a : max a b ≡ a → (a ≡ 0) ⊎ A a → (max a b ≡ 0) ⊎ C (max a b)
      to_a e (inl z) = inl (e ∙ z)
      to_a e (inr i) = inr (subst C (sym e) (left a i))

      to_b : max a b ≡ b → (b ≡ 0) ⊎ B b → (max a b ≡ 0) ⊎ C (max a b)
      to_b e (inl z) = inl (e ∙ z)
      to_b e (inr i) = inr (subst C (sym e) (right b i))

      choose : (a ≤ b) ⊎ (b < a) → (max a b ≡ 0) ⊎ C (max a b)
      choose (inl l) = to_b (max-eq_right l) k.there
      choose (inr l) = to_a (max-eq_left (omega (arith, l))) h.there

  pub next_both : (a b : Option ℕ) → IsNext A w a → IsNext B w b → IsNext C w (earlier a b)
  next_both None None h k = λ d c. by d (from d c)
    where
      by : (d : ℕ) → A d ⊎ B d → d ≤ w
      by d (inl i) = h d i
      by d (inr i) = k d i
  next_both None (Some y) h (p, i, q) = (p, right y i, λ d c lt. by d lt (from d c))
    where
      by : (d : ℕ) → w < d → A d ⊎ B d → y ≤ d
      by d lt (inl j) = let m = h d j in absurd (omega (arith, m, lt))
      by d lt (inr j) = q d j lt
  next_both (Some x) None (p, i, q) k = (p, left x i, λ d c lt. by d lt (from d c))
    where
      by : (d : ℕ) → w < d → A d ⊎ B d → x ≤ d
      by d lt (inl j) = q d j lt
      by d lt (inr j) = let m = k d j in absurd (omega (arith, m, lt))
  next_both (Some x) (Some y) (p, i, q) (r, j, s) = choose (which x y)
    where
      least : (m : ℕ) → m ≤ x → m ≤ y → (d : ℕ) → w < d → A d ⊎ B d → m ≤ d
      least m a b d lt (inl k) = let n = q d k lt in omega (arith, n, a)
      least m a b d lt (inr k) = let n = s d k lt in omega (arith, n, b)

      choose : (x ≤ y) ⊎ (y < x) → IsNext C w (Some (min x y))
      choose (inl l) = subst (λ m. IsNext C w (Some m)) (sym (min-eq_left l)) (p, left x i, λ d c lt. least x (omega arith) l d lt (from d c))
      choose (inr l) = subst (λ m. IsNext C w (Some m)) (sym (min-eq_right (omega (arith, l)))) (r, right y j, λ d c lt. least y (omega (arith, l)) (omega arith) d lt (from d c))

-- the same of others that are the same
pub last_same : (A C : ℕ → Type 0) (w last : ℕ) → ((d : ℕ) → A d ↔ C d) → IsLast A w last → IsLast C w last
last_same A C w last same h = record { low = h.low; none_later = λ d c l. h.none_later d ((same d).1 c) l; there = by h.there }
  where
    by : (last ≡ 0) ⊎ A last → (last ≡ 0) ⊎ C last
    by (inl e) = inl e
    by (inr i) = inr ((same last).0 i)

-- there is one
one_last : (x w : ℕ) → (last : ℕ) × IsLast (λ d. x ≡ d) w last
one_last x w = by (which x w)
  where
    by : (x ≤ w) ⊎ (w < x) → (last : ℕ) × IsLast (λ d. x ≡ d) w last
    by (inl l) = (x, record { low = l; none_later = λ d e m. omega (arith, e); there = inr refl })
    by (inr l) = (0, record { low = omega arith; none_later = λ d e m. absurd (omega (arith, e, m, l)); there = inl refl })

pub some_last : (ws : List ℕ) (w : ℕ) → (last : ℕ) × IsLast (λ x. Contains ws x) w last
some_last [] w = (0, record { low = omega arith; none_later = λ d i m. absurd (none_there d [] refl i); there = inl refl })
some_last (x ∷ ws) w =
    let (a, h) = one_last x w in
    let (b, k) = some_last ws w in
    (max a b, last_both (λ d. x ≡ d) (λ d. Contains ws d) (λ d. Contains (x ∷ ws) d) w (λ d c. here_or_there x d ws c) (λ d e. here x d ws e) (λ d c. there x d ws c) a b h k)

-- there is only one, except for 0
last_once : (Is : ℕ → Type 0) (w a b : ℕ) → 0 < a → 0 < b → IsLast Is w a → IsLast Is w b → a ≡ b
last_once Is w a b p q h k = by h.there k.there
  where
    by : (a ≡ 0) ⊎ Is a → (b ≡ 0) ⊎ Is b → a ≡ b
    by (inl e) j = absurd (omega (arith, e, p))
    by (inr i) (inl e) = absurd (omega (arith, e, q))
    by (inr i) (inr j) = let m = k.none_later a i h.low in let n = h.none_later b j k.low in omega (arith, m, n)

-- ---- a walk over lists

pub made_none : (ls : List (List ℕ)) (w : ℕ) → IsMadeBy ls [] w → ⊥
made_none ls w (n, c, i) = none_there n [] refl c

module _ (ls : List (List ℕ)) (ks : List ℕ) (i : ℕ) (l : i < length ks) where
  abbrev this : ℕ
  this = get_or ks i 0

  more : take (i + 1) ks ≡ take i ks ++ this ∷ []
  more = take_more ks i 0 l

  to_more : (n : ℕ) → Contains (take i ks) n → Contains (take (i + 1) ks) n
  to_more n c = subst (λ xs. Contains xs n) (sym more) (Contains-append_left (take i ks) (this ∷ []) n c)

  this_there : Contains (take (i + 1) ks) this
  this_there = subst (λ xs. Contains xs this) (sym more) (Contains-append_right (take i ks) (this ∷ []) this (here this this [] refl))

  from_more : (n : ℕ) → Contains (take (i + 1) ks) n → Contains (take i ks) n ⊎ (this ≡ n)
  from_more n c = by (Contains-append_cases (take i ks) (this ∷ []) n (subst (λ xs. Contains xs n) more c))
    where
      last : (this ≡ n) ⊎ Contains [] n → Contains (take i ks) n ⊎ (this ≡ n)
      last (inl e) = inr e
      last (inr d) = absurd (none_there n [] refl d)

      by : Contains (take i ks) n ⊎ Contains (this ∷ []) n → Contains (take i ks) n ⊎ (this ≡ n)
      by (inl d) = inl d
      by (inr d) = last (here_or_there this n [] d)

  made_from : (d : ℕ) → IsMadeBy ls (take (i + 1) ks) d → Contains (nth ls this) d ⊎ IsMadeBy ls (take i ks) d
  made_from d (n, c, j) = by (from_more n c)
    where
      by : Contains (take i ks) n ⊎ (this ≡ n) → Contains (nth ls this) d ⊎ IsMadeBy ls (take i ks) d
      by (inl c) = inr (n, c, j)
      by (inr e) = inl (subst (λ n. Contains (nth ls n) d) (sym e) j)

  made_this : (d : ℕ) → Contains (nth ls this) d → IsMadeBy ls (take (i + 1) ks) d
  made_this d j = (this, this_there, j)

  made_rest : (d : ℕ) → IsMadeBy ls (take i ks) d → IsMadeBy ls (take (i + 1) ks) d
  made_rest d (n, c, j) = (n, to_more n c, j)

  pub last_step : (w one last : ℕ) → IsLast (λ x. Contains (nth ls this) x) w one → IsLast (IsMadeBy ls (take i ks)) w last → IsLast (IsMadeBy ls (take (i + 1) ks)) w (max one last)
  last_step w one last h k = last_both (λ x. Contains (nth ls this) x) (IsMadeBy ls (take i ks)) (IsMadeBy ls (take (i + 1) ks)) w made_from made_this made_rest one last h k

  pub next_step : (w : ℕ) (one next : Option ℕ) → IsNext (λ x. Contains (nth ls this) x) w one → IsNext (IsMadeBy ls (take i ks)) w next → IsNext (IsMadeBy ls (take (i + 1) ks)) w (earlier one next)
  next_step w one next h k = next_both (λ x. Contains (nth ls this) x) (IsMadeBy ls (take i ks)) (IsMadeBy ls (take (i + 1) ks)) w made_from made_this made_rest one next h k

  -- of the next list the last world is taken, unless it is 0
  module _ (w one : ℕ) (h : IsLast (λ x. Contains (nth ls this) x) w one) where
    pub latest_more : 0 < one → (those new : List ℕ) → new ≡ those ++ one ∷ [] → ((d : ℕ) → Contains those d ↔ IsLastMade ls (take i ks) w d) → (d : ℕ) → Contains new d ↔ IsLastMade ls (take (i + 1) ks) w d
    latest_more p those new e are d = (λ c. to (Contains-append_cases those (one ∷ []) d (subst (λ xs. Contains xs d) e c)), λ m. subst (λ xs. Contains xs d) (sym e) (from m))
      where
        last : (one ≡ d) ⊎ Contains [] d → IsLastMade ls (take (i + 1) ks) w d
        last (inl q) = subst (IsLastMade ls (take (i + 1) ks) w) q (this, this_there, p, h)
        last (inr n) = absurd (none_there d [] refl n)

        to : Contains those d ⊎ Contains (one ∷ []) d → IsLastMade ls (take (i + 1) ks) w d
        to (inl c) = let (n, k, q, j) = (are d).0 c in (n, to_more n k, q, j)
        to (inr c) = last (here_or_there one d [] c)

        from : IsLastMade ls (take (i + 1) ks) w d → Contains (those ++ one ∷ []) d
        from (n, k, q, j) = by (from_more n k)
          where
            by : Contains (take i ks) n ⊎ (this ≡ n) → Contains (those ++ one ∷ []) d
            by (inl c) = Contains-append_left those (one ∷ []) d ((are d).1 (n, c, q, j))
            by (inr r) =
                Contains-append_right those (one ∷ []) d
                (here one d [] (last_once (λ x. Contains (nth ls this) x) w one d p q h (subst (λ n. IsLast (λ x. Contains (nth ls n) x) w d) (sym r) j)))

    pub latest_none : (0 < one → ⊥) → (those new : List ℕ) → new ≡ those → ((d : ℕ) → Contains those d ↔ IsLastMade ls (take i ks) w d) → (d : ℕ) → Contains new d ↔ IsLastMade ls (take (i + 1) ks) w d
    latest_none none those new e are d = (λ c. (let (n, k, q, j) = (are d).0 (subst (λ xs. Contains xs d) e c) in (n, to_more n k, q, j)), from)
      where
        from : IsLastMade ls (take (i + 1) ks) w d → Contains new d
        from (n, k, q, j) = by (from_more n k)
          where
            at_this : IsLast (λ x. Contains (nth ls this) x) w d → (d ≡ 0) ⊎ Contains (nth ls this) d → Contains new d
            at_this m (inl z) = absurd (omega (arith, z, q))
            at_this m (inr t) = let o = h.none_later d t m.low in absurd (none (omega (arith, o, q)))

            by : Contains (take i ks) n ⊎ (this ≡ n) → Contains new d
            by (inl c) = subst (λ xs. Contains xs d) (sym e) ((are d).1 (n, c, q, j))
            by (inr r) = let m = subst (λ n. IsLast (λ x. Contains (nth ls n) x) w d) (sym r) j in at_this m m.there

    abbrev one_del : Del
    one_del = record { world = one; place = this }

    abbrev IsOne : Del → Type 0
    IsOne d = Contains (take (i + 1) ks) d.place × (0 < d.world) × IsLast (λ x. Contains (nth ls d.place) x) w d.world

    pub dels_more : 0 < one → (those new : List Del) → new ≡ those ++ one_del ∷ [] → AreLastDels ls (take i ks) w those → AreLastDels ls (take (i + 1) ks) w new
    dels_more p those new e are d = (λ c. to (Contains-append_cases those (one_del ∷ []) d (subst (λ xs. Contains xs d) e c)), λ m. subst (λ xs. Contains xs d) (sym e) (from m))
      where
        last : (one_del ≡ d) ⊎ Contains [] d → IsOne d
        last (inl q) = subst IsOne q (this_there, p, h)
        last (inr n) = absurd (none_there d [] refl n)

        to : Contains those d ⊎ Contains (one_del ∷ []) d → IsOne d
        to (inl c) = let (k, q, j) = (are d).0 c in (to_more d.place k, q, j)
        to (inr c) = last (here_or_there one_del d [] c)

        from : IsOne d → Contains (those ++ one_del ∷ []) d
        from (k, q, j) = by (from_more d.place k)
          where
            by : Contains (take i ks) d.place ⊎ (this ≡ d.place) → Contains (those ++ one_del ∷ []) d
            by (inl c) = Contains-append_left those (one_del ∷ []) d ((are d).1 (c, q, j))
            by (inr r) =
                let at : one ≡ d.world = last_once (λ x. Contains (nth ls this) x) w one d.world p q h (subst (λ n. IsLast (λ x. Contains (nth ls n) x) w d.world) (sym r) j) in
                let same : one_del ≡ d = λ k. record { world = at k; place = r k } in
                Contains-append_right those (one_del ∷ []) d (here one_del d [] same)

    pub dels_none : (0 < one → ⊥) → (those new : List Del) → new ≡ those → AreLastDels ls (take i ks) w those → AreLastDels ls (take (i + 1) ks) w new
    dels_none none those new e are d = (λ c. (let (k, q, j) = (are d).0 (subst (λ xs. Contains xs d) e c) in (to_more d.place k, q, j)), from)
      where
        from : Contains (take (i + 1) ks) d.place × (0 < d.world) × IsLast (λ x. Contains (nth ls d.place) x) w d.world → Contains new d
        from (k, q, j) = by (from_more d.place k)
          where
            at_this : IsLast (λ x. Contains (nth ls this) x) w d.world → (d.world ≡ 0) ⊎ Contains (nth ls this) d.world → Contains new d
            at_this m (inl z) = absurd (omega (arith, z, q))
            at_this m (inr t) = let o = h.none_later d.world t m.low in absurd (none (omega (arith, o, q)))

            by : Contains (take i ks) d.place ⊎ (this ≡ d.place) → Contains new d
            by (inl c) = subst (λ xs. Contains xs d) (sym e) ((are d).1 (c, q, j))
            by (inr r) = let m = subst (λ n. IsLast (λ x. Contains (nth ls n) x) w d.world) (sym r) j in at_this m m.there

-- ---- before the walk, and after it

pub last_start : (ls : List (List ℕ)) (w : ℕ) → IsLast (IsMadeBy ls []) w 0
last_start ls w = record { low = omega arith; none_later = λ d m l. absurd (made_none ls d m); there = inl refl }

pub next_start : (ls : List (List ℕ)) (w : ℕ) → IsNext (IsMadeBy ls []) w None
next_start ls w = λ d m. absurd (made_none ls d m)

pub latest_start : (ls : List (List ℕ)) (w d : ℕ) → Contains [] d ↔ IsLastMade ls [] w d
latest_start ls w d = (λ c. absurd (none_there d [] refl c), λ m. absurd (none_there m.0 [] refl m.1))

pub dels_start : (ls : List (List ℕ)) (w : ℕ) → AreLastDels ls [] w []
dels_start ls w d = (λ c. absurd (none_there d [] refl c), λ m. absurd (none_there d.place [] refl m.0))
