-- What was found at all probes are the pairs.
use Rattle.std.proofs.Common.{◌≡◌, ◌∙◌, sym, ap, subst, refl, ℕ, zero, suc, ◌<◌, ◌⊎◌, inl, inr, arith, List, [], ◌∷◌, ◌++◌, length, take}
use Rattle.std.specs.List.{Contains}
use Rattle.std.specs.Cmp.{IsTotalOrder}
use Rattle.std.specs.Ordering.{ordering_reverse}
use Rattle.std.proofs.lemmas.Cmp.{lists_total, tied_itself}
use Rattle.std.proofs.lemmas.List.Elements.{Contains-append_left, Contains-append_right, Contains-append_cases}
use Rattle.jl_model.specs.declared.ty.Ty.{Ty}
use Rattle.jl_model.specs.Order.{term_cmp}
use Rattle.jl_model.proofs.OrderLemmas.{term_order}
use Rattle.jl_program.specs.declared.tree.Program.{Program}
use Rattle.jl_program.specs.Valid.{IsValid}
use Rattle.jl_calculus.specs.declared.history.Event.{Event}
use Rattle.jl_calculus.specs.World.{changes, world_of}
use Rattle.jl_methods.proofs.ChangeLemmas.{def_of}
use Rattle.jl_methods.proofs.FilterLemmas.{here, there, here_or_there}
use Rattle.jl_ambig.specs.declared.noting.Pair.{Pair}
use Rattle.jl_ambig.specs.Asked.{Probe, probes_of, probes_up_to, IsFirstAt, AreFound, AreBelow}
use Rattle.jl_ambig.specs.Pairs.{IsAmbiguous, IsPair, ArePairs}
use Rattle.jl_ambig.specs.Probes.{AreProbeTypes, IsProbe, IsEarlier, lists_of}
use Rattle.jl_ambig.proofs.ListLemmas.{order, of_lists, in_lists, rises_lists}
use Rattle.jl_ambig.proofs.Members.{empty, in_map, of_map}
use Rattle.jl_ambig.proofs.Sorted.{Rises, to_rises}
use Rattle.jl_ambig.proofs.TwoLemmas.{applies_long, AreTwo, two}

list_order : IsTotalOrder order
list_order = lists_total term_order

not_itself : (ts : List Ty) → IsEarlier ts ts → ⊥
not_itself ts (inl l) = omega (arith, l)
not_itself ts (inr e) = let h = tied_itself list_order ts in let q = e.1 in cc

-- ---- no probe comes before one of its function that was asked earlier

abbrev InOrder : Probe → Probe → Type 0
InOrder q r = r.function ≡ q.function → IsEarlier r.types q.types → ⊥

Orderly : List Probe → Type 0
Orderly [] = Unit {0}
Orderly (q ∷ qs) = ((r : Probe) → Contains qs r → InOrder q r) × Orderly qs

orderly_append : (xs ys : List Probe) → Orderly xs → Orderly ys → ((q r : Probe) → Contains xs q → Contains ys r → InOrder q r) → Orderly (xs ++ ys)
unfolding Orderly
orderly_append [] ys h k f = k
orderly_append (x ∷ xs) ys h k f = (λ r c. by r (Contains-append_cases xs ys r c), orderly_append xs ys h.1 k (λ q r c d. f q r (there x q xs c) d))
  where
    by : (r : Probe) → Contains xs r ⊎ Contains ys r → InOrder x r
    by r (inl c) = h.0 r c
    by r (inr c) = f x r (here x x xs refl) c

orderly_of : (f n : ℕ) (lists : List (List Ty)) → ((ts : List Ty) → Contains lists ts → length ts ≡ n) → Rises order lists → Orderly (probes_of f lists)
unfolding Orderly
orderly_of f n [] l h = tt
orderly_of f n (ts ∷ lists) l h = (first, orderly_of f n lists (λ us c. l us (there ts us lists c)) h.1)
  where
    apart : (us : List Ty) → Contains lists us → IsEarlier us ts → ⊥
    apart us c (inl m) = let a = l ts (here ts ts lists refl) in let b = l us (there ts us lists c) in omega (arith, m, a, b)
    apart us c (inr e) = let a = h.0 us c in let b = list_order.antisymm us ts ∙ ap ordering_reverse a in let d = e.1 in cc

    first : (r : Probe) → Contains (probes_of f lists) r → InOrder (record { function = f; types = ts }) r
    first r c s e =
        let (us, k, q) = of_map (λ (us : List Ty). record { function = f; types = us }) lists r c in
        apart us k (subst (λ (z : Probe). IsEarlier z.types ts) (sym q) e)

-- ---- where a probe stands

record IsUpTo (f : ℕ) (lists : List (List Ty)) (q : Probe) : Type 0 where
  pub function : q.function < f
  pub types : Contains lists q.types

of_probes : (f : ℕ) (lists : List (List Ty)) (q : Probe) → Contains (probes_of f lists) q → (q.function ≡ f) × Contains lists q.types
of_probes f lists q c =
    let (us, k, e) = of_map (λ (us : List Ty). record { function = f; types = us }) lists q c in
    (ap (λ (z : Probe). z.function) (sym e), subst (λ (z : Probe). Contains lists z.types) e k)

of_up : (f : ℕ) (lists : List (List Ty)) (q : Probe) → Contains (probes_up_to f lists) q → IsUpTo f lists q
of_up zero lists q c = absurd (empty q c)
of_up (suc f) lists q c = by (of_up f lists q) (Contains-append_cases (probes_up_to f lists) (probes_of f lists) q c)
  where
    wider : IsUpTo f lists q → IsUpTo (suc f) lists q
    wider h = record { function = (let l = h.function in omega (arith, l)); types = h.types }

    last : (q.function ≡ f) × Contains lists q.types → IsUpTo (suc f) lists q
    last (e, k) = record { function = omega (arith, e); types = k }

    by : (Contains (probes_up_to f lists) q → IsUpTo f lists q) → Contains (probes_up_to f lists) q ⊎ Contains (probes_of f lists) q → IsUpTo (suc f) lists q
    by more (inl k) = wider (more k)
    by more (inr k) = last (of_probes f lists q k)

in_up : (f g : ℕ) (lists : List (List Ty)) (ts : List Ty) → g < f → Contains lists ts → Contains (probes_up_to f lists) (record { function = g; types = ts })
in_up zero g lists ts l c = absurd (omega (arith, l))
in_up (suc f) g lists ts l c = by (λ m. in_up f g lists ts m c) (below g f l)
  where
    below : (m n : ℕ) → m < suc n → (m < n) ⊎ (m ≡ n)
    below zero zero k = inr refl
    below zero (suc n) k = inl (omega arith)
    below (suc m) zero k = absurd (omega (arith, k))
    below (suc m) (suc n) k = up (below m n (omega (arith, k)))
      where
        up : (m < n) ⊎ (m ≡ n) → (suc m < suc n) ⊎ (suc m ≡ suc n)
        up (inl a) = inl (omega (arith, a))
        up (inr e) = inr (ap suc e)

    own : (g ≡ f) → Contains (probes_of f lists) (record { function = g; types = ts })
    own e = subst (λ z. Contains (probes_of f lists) (record { function = z; types = ts })) (sym e) (in_map (λ (us : List Ty). record { function = f; types = us }) lists ts c)

    by : (g < f → Contains (probes_up_to f lists) (record { function = g; types = ts })) → (g < f) ⊎ (g ≡ f) → Contains (probes_up_to f lists ++ probes_of f lists) (record { function = g; types = ts })
    by more (inl m) = Contains-append_left (probes_up_to f lists) (probes_of f lists) (record { function = g; types = ts }) (more m)
    by more (inr e) = Contains-append_right (probes_up_to f lists) (probes_of f lists) (record { function = g; types = ts }) (own e)

orderly_up : (f n : ℕ) (lists : List (List Ty)) → ((ts : List Ty) → Contains lists ts → length ts ≡ n) → Rises order lists → Orderly (probes_up_to f lists)
unfolding Orderly
orderly_up zero n lists l h = tt
orderly_up (suc f) n lists l h = orderly_append (probes_up_to f lists) (probes_of f lists) (orderly_up f n lists l h) (orderly_of f n lists l h) (λ q r c d. by q r (of_up f lists q c) (of_probes f lists r d))
  where
    by : (q r : Probe) → IsUpTo f lists q → (r.function ≡ f) × Contains lists r.types → InOrder q r
    by q r a b s e = let l = a.function in omega (arith, l, b.0, s)

-- ---- all of them

module _ (F : ℕ) (types : List Ty) (rising : Rises term_cmp types) where
  abbrev lists : ℕ → List (List Ty)
  lists n = lists_of types n

  abbrev block : ℕ → List Probe
  block n = probes_up_to F (lists n)

  -- those with fewer types than a number
  abbrev pub upto : ℕ → List Probe
  upto zero = []
  upto (suc n) = upto n ++ block n

  long : (n : ℕ) (ts : List Ty) → Contains (lists n) ts → length ts ≡ n
  long n ts c = (of_lists types n ts c).1

  record IsAsked (n : ℕ) (q : Probe) : Type 0 where
    pub function : q.function < F
    pub short : length q.types < n
    pub are_of : (t : Ty) → Contains q.types t → Contains types t

  of_block : (n : ℕ) (q : Probe) → Contains (block n) q → (q.function < F) × (length q.types ≡ n) × ((t : Ty) → Contains q.types t → Contains types t)
  of_block n q c =
      let h = of_up F (lists n) q c in
      let k = of_lists types n q.types h.types in
      (h.function, k.1, k.0)

  of_upto : (n : ℕ) (q : Probe) → Contains (upto n) q → IsAsked n q
  of_upto zero q c = absurd (empty q c)
  of_upto (suc n) q c = by (of_upto n q) (Contains-append_cases (upto n) (block n) q c)
    where
      wider : IsAsked n q → IsAsked (suc n) q
      wider h = record { function = h.function; short = (let l = h.short in omega (arith, l)); are_of = h.are_of }

      last : (q.function < F) × (length q.types ≡ n) × ((t : Ty) → Contains q.types t → Contains types t) → IsAsked (suc n) q
      last (f, l, k) = record { function = f; short = omega (arith, l); are_of = k }

      by : (Contains (upto n) q → IsAsked n q) → Contains (upto n) q ⊎ Contains (block n) q → IsAsked (suc n) q
      by more (inl k) = wider (more k)
      by more (inr k) = last (of_block n q k)

  in_upto : (n f : ℕ) (ts : List Ty) → f < F → length ts < n → ((t : Ty) → Contains ts t → Contains types t) → Contains (upto n) (record { function = f; types = ts })
  in_upto zero f ts l m k = absurd (omega (arith, m))
  in_upto (suc n) f ts l m k = by (λ s. in_upto n f ts l s k) (below (length ts) n m)
    where
      below : (a b : ℕ) → a < suc b → (a < b) ⊎ (a ≡ b)
      below zero zero s = inr refl
      below zero (suc b) s = inl (omega arith)
      below (suc a) zero s = absurd (omega (arith, s))
      below (suc a) (suc b) s = up (below a b (omega (arith, s)))
        where
          up : (a < b) ⊎ (a ≡ b) → (suc a < suc b) ⊎ (suc a ≡ suc b)
          up (inl x) = inl (omega (arith, x))
          up (inr e) = inr (ap suc e)

      by : (length ts < n → Contains (upto n) (record { function = f; types = ts })) → (length ts < n) ⊎ (length ts ≡ n) → Contains (upto n ++ block n) (record { function = f; types = ts })
      by more (inl s) = Contains-append_left (upto n) (block n) (record { function = f; types = ts }) (more s)
      by more (inr e) = Contains-append_right (upto n) (block n) (record { function = f; types = ts }) (in_up F f (lists n) ts l (in_lists types n ts (k, e)))

  orderly : (n : ℕ) → Orderly (upto n)
  unfolding Orderly
  orderly zero = tt
  orderly (suc n) = orderly_append (upto n) (block n) (orderly n) (orderly_up F n (lists n) (long n) (rises_lists types n rising)) (λ q r c d. by q r (of_upto n q c) (of_block n r d))
    where
      by : (q r : Probe) → IsAsked n q → (r.function < F) × (length r.types ≡ n) × ((t : Ty) → Contains r.types t → Contains types t) → InOrder q r
      by q r a b s (inl l) = let m = a.short in omega (arith, l, m, b.1)
      by q r a b s (inr e) = let m = a.short in omega (arith, e.0, m, b.1)

-- what comes before a probe among those that were asked was asked before it
split_order : (before after : List Probe) (at : Probe) → Orderly (before ++ at ∷ after) → (r : Probe) → Contains (before ++ at ∷ after) r → r.function ≡ at.function → IsEarlier r.types at.types → Contains before r
unfolding Orderly
split_order [] after at h r c s e = by (here_or_there at r after c)
  where
    by : (at ≡ r) ⊎ Contains after r → Contains [] r
    by (inl q) = absurd (not_itself at.types (subst (λ (z : Probe). IsEarlier z.types at.types) (sym q) e))
    by (inr k) = absurd (h.0 r k s e)
split_order (q ∷ before) after at h r c s e = by (λ k. split_order before after at h.1 r k s e) (here_or_there q r (before ++ at ∷ after) c)
  where
    by : (Contains (before ++ at ∷ after) r → Contains before r) → (q ≡ r) ⊎ Contains (before ++ at ∷ after) r → Contains (q ∷ before) r
    by more (inl k) = here q r before k
    by more (inr k) = there q r before (more k)

module _ (P : Program) (valid : IsValid P) (es : List Event) (types : List Ty) (probes : AreProbeTypes P es types) (F : ℕ) (below : AreBelow P.sites F) where
  abbrev rising : Rises term_cmp types
  rising = to_rises term_cmp types probes.rises

  of_function : (f : ℕ) (ts : List Ty) → AreTwo P valid es f (world_of es) ts → f < F
  of_function f ts t =
      let i = def_of P f 1 (take (world_of es) (changes es)) t.one t.one_stands.made in
      let l = below t.one.site i.site i.stands in
      omega (arith, l, i.function_is)

  module _ (pairs : List Pair) (h : AreFound P es (upto F types rising 4) pairs) where
    is_pair : (p : Pair) → IsFirstAt P es (upto F types rising 4) p → IsPair P es types p
    is_pair p k = record {
      function = k.at.function;
      probe = subst (IsProbe P es types k.at.function) k.types_are (record { each = asked.are_of; few = (let l = asked.short in omega (arith, l)); like = (t.one, t.one_stands, sym (applies_long P k.at.types t.one t.one_applies)) });
      is_named = subst (λ us. IsAmbiguous P es k.at.function us p.a p.b) k.types_are k.is_named;
      first = λ us q n e. k.first (record { function = k.at.function; types = us }) (earlier us q (subst (IsEarlier us) (sym k.types_are) e)) n;
    }
      where
        there_at : Contains (upto F types rising 4) k.at
        there_at = subst (λ qs. Contains qs k.at) (sym k.split) (Contains-append_right k.before (k.at ∷ k.after) k.at (here k.at k.at k.after refl))

        asked : IsAsked F types rising 4 k.at
        asked = of_upto F types rising 4 k.at there_at

        t : AreTwo P valid es k.at.function (world_of es) k.at.types
        t = two P valid es k.at.function (world_of es) k.at.types p.a p.b k.is_named

        earlier : (us : List Ty) → IsProbe P es types k.at.function us → IsEarlier us k.at.types → Contains k.before (record { function = k.at.function; types = us })
        earlier us q e =
            let l = q.few in
            let m = in_upto F types rising 4 k.at.function us asked.function (omega (arith, l)) q.each in
            split_order k.before k.after k.at (subst Orderly k.split (orderly F types rising 4)) (record { function = k.at.function; types = us })
            (subst (λ qs. Contains qs (record { function = k.at.function; types = us })) k.split m) refl e

    are_pairs : ArePairs P es pairs
    are_pairs = record {
      types = types;
      probes = probes;
      each = λ p c. is_pair p (h.each p c);
      all = λ f ts a b q n.
          (let l = q.few in
          h.all (record { function = f; types = ts }) a b (in_upto F types rising 4 f ts (of_function f ts (two P valid es f (world_of es) ts a b n)) (omega (arith, l)) q.each) n);
      rises = h.rises;
    }

  -- so after the last probe
  pub pairs_done : (pairs : List Pair) → AreFound P es (upto F types (to_rises term_cmp types probes.rises) 4) pairs → ArePairs P es pairs
  pairs_done pairs h = are_pairs pairs h
