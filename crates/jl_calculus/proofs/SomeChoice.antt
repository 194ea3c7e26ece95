-- There is a choice among methods whose numbers rise, where it is decided which of them apply and which is below which.
use Rattle.std.proofs.Common.{◌≡◌, ◌∙◌, sym, ap, subst, refl, ℕ, ◌+◌, ◌<◌, ◌≤◌, ◌⊎◌, inl, inr, arith, Bool, true, false, cond, nat_eq, List, [], ◌∷◌, Option, None, Some, take, slice_get}
use Rattle.jl_model.specs.declared.ty.Ty.{Ty}
use Rattle.jl_model.specs.Subtype.{Table}
use Rattle.jl_model.specs.Signature.{Applicable, SigBelow, StrictlyBelow, SameSignature}
use Rattle.jl_model.specs.Choice.{Method, Applies, IsCandidate, IsBest, IsUnordered, IsFirstTwo, ChoosesAmbiguous}
use Rattle.jl_program.specs.declared.choice.Choice.{Choice}
use Rattle.jl_program.specs.declared.choice.Choice.TheVariants as C
use Rattle.jl_program.specs.declared.tree.Program.{Program}
use Rattle.jl_program.specs.declared.tree.Site.{Site}
use Rattle.jl_program.specs.Chooses.{Chooses}
use Rattle.jl_calculus.specs.declared.history.Change.{Change}
use Rattle.jl_calculus.specs.declared.history.Change.TheVariants as Ch
use Rattle.jl_calculus.specs.declared.history.Event.{Event}
use Rattle.jl_calculus.specs.World.{changes, method_at, methods_from, methods_made, Stands, AreMethodsFor, Selects}
use Rattle.jl_program.specs.Scope.{types_of}
use Rattle.jl_calculus.proofs.SureLemmas.{Sure, Known, sure_known, known_not, known_both, known_less, known_same, In, in_of, contains_of, each_of, sure_each, FoundOrNot, search_in, known_each}

-- the numbers of the methods rise
abbrev pub Rises : List Method → Type 0
Rises [] = Unit {0}
Rises (m ∷ ms) = ((o : Method) → In o ms → m.number < o.number) × Rises ms

-- ---- the methods in a world

abbrev From : ℕ → List Method → Type 0
From number ms = Rises ms × ((m : Method) → In m ms → number ≤ m.number)

from_by : (b : Bool) (m : Method) (number : ℕ) (ms : List Method) → m.number ≡ number → From (number + 1) ms → From number (cond b (m ∷ ms) ms)
from_by true m number ms e h = ((λ o i. omega (arith, h.1 o i, e), h.0), each_of (λ o. number ≤ o.number) m ms (omega (arith, e)) (λ o i. omega (arith, h.1 o i)))
from_by false m number ms e h = (h.0, λ o i. omega (arith, h.1 o i))

from_at : (site : Option Site) (f number : ℕ) (ms : List Method) → From (number + 1) ms → From number (method_at site f number ms)
from_at None f number ms h = (h.0, λ o i. omega (arith, h.1 o i))
from_at (Some site) f number ms h = from_by (nat_eq site.function f) (record { number = number; sig = site.sig }) number ms refl h

pub methods_rise : (P : Program) (f number : ℕ) (cs : List Change) → From number (methods_from P f number cs)
methods_rise P f number [] = (tt, λ o i. absurd i)
methods_rise P f number (Ch.Def site ∷ cs) = from_at (slice_get P.sites site) f number (methods_from P f (number + 1) cs) (methods_rise P f (number + 1) cs)
methods_rise P f number (Ch.Del place ∷ cs) = let h = methods_rise P f (number + 1) cs in (h.0, λ o i. omega (arith, h.1 o i))

-- ---- searches through methods whose numbers rise

-- the first with the property, or none
abbrev FirstOrNot : List Method → (Method → Type 0) → Type 0
FirstOrNot ms Q = ((m : Method) × In m ms × Q m × ((o : Method) → In o ms → Q o → m.number ≤ o.number)) ⊎ ((m : Method) → In m ms → Q m → ⊥)

first_at : (Q : Method → Type 0) (m : Method) (ms : List Method) → Rises (m ∷ ms) → Known (Q m) → FirstOrNot ms Q → FirstOrNot (m ∷ ms) Q
first_at Q m ms r (inl q) f = inl (m, inl refl, q, each_of (λ o. Q o → m.number ≤ o.number) m ms (λ p. omega arith) (λ o i p. omega (arith, r.0 o i)))
first_at Q m ms r (inr n) (inl (o, i, q, l)) = inl (o, inr i, q, each_of (λ z. Q z → o.number ≤ z.number) m ms (λ p. absurd (n p)) l)
first_at Q m ms r (inr n) (inr f) = inr (each_of (λ o. Q o → ⊥) m ms n f)

first_in : (Q : Method → Type 0) (ms : List Method) → Rises ms → ((m : Method) → In m ms → Known (Q m)) → FirstOrNot ms Q
first_in Q [] r k = inr (λ m i q. absurd i)
first_in Q (m ∷ ms) r k = first_at Q m ms r (k m (inl refl)) (first_in Q ms r.1 (λ o i. k o (inr i)))

-- the least pair with the property, or none
record IsLeastPair (ms : List Method) (U : Method → Method → Type 0) (a b : Method) : Type 0 where
  first : In a ms
  second : In b ms
  earlier : a.number < b.number
  has : U a b
  least : (c d : Method) → In c ms → In d ms → c.number < d.number → U c d → (a.number < c.number) ⊎ ((a.number ≡ c.number) × (b.number ≤ d.number))

abbrev PairOrNot : List Method → (Method → Method → Type 0) → Type 0
PairOrNot ms U = ((a : Method) × (b : Method) × IsLeastPair ms U a b) ⊎ ((a b : Method) → In a ms → In b ms → a.number < b.number → U a b → ⊥)

module _ (U : Method → Method → Type 0) (m : Method) (ms : List Method) (r : Rises (m ∷ ms)) where
  -- a pair of the list begins with the first, or both are later
  begins : (c d : Method) → In c (m ∷ ms) → In d (m ∷ ms) → c.number < d.number → ((m ≡ c) × In d ms) ⊎ (In c ms × In d ms)
  begins c d (inl e) (inl f) l = let p : c.number ≡ d.number = ap (λ (z : Method). z.number) (sym e ∙ f) in absurd (omega (arith, l, p))
  begins c d (inl e) (inr j) l = inl (e, j)
  begins c d (inr i) (inl f) l = let p : m.number ≡ d.number = ap (λ (z : Method). z.number) f in absurd (omega (arith, l, p, r.0 c i))
  begins c d (inr i) (inr j) l = inr (i, j)

  with_first : (b : Method) → In b ms → U m b → ((o : Method) → In o ms → U m o → b.number ≤ o.number) → IsLeastPair (m ∷ ms) U m b
  with_first b i u l = record { first = inl refl; second = inr i; earlier = r.0 b i; has = u; least = λ c d j k e w. least c d (begins c d j k e) w }
    where
      least : (c d : Method) → ((m ≡ c) × In d ms) ⊎ (In c ms × In d ms) → U c d → (m.number < c.number) ⊎ ((m.number ≡ c.number) × (b.number ≤ d.number))
      least c d (inl (e, j)) w = inr (ap (λ (z : Method). z.number) e, l d j (subst (λ z. U z d) (sym e) w))
      least c d (inr (i, j)) w = inl (r.0 c i)

  without_first : (a b : Method) → ((o : Method) → In o ms → U m o → ⊥) → IsLeastPair ms U a b → IsLeastPair (m ∷ ms) U a b
  without_first a b n p = record { first = inr p.first; second = inr p.second; earlier = p.earlier; has = p.has; least = λ c d j k e w. least c d (begins c d j k e) e w }
    where
      least : (c d : Method) → ((m ≡ c) × In d ms) ⊎ (In c ms × In d ms) → c.number < d.number → U c d → (a.number < c.number) ⊎ ((a.number ≡ c.number) × (b.number ≤ d.number))
      least c d (inl (e, j)) l w = absurd (n d j (subst (λ z. U z d) (sym e) w))
      least c d (inr (i, j)) l w = p.least c d i j l w

  pair_at : FirstOrNot ms (U m) → PairOrNot ms U → PairOrNot (m ∷ ms) U
  pair_at (inl (b, i, u, l)) f = inl (m, b, with_first b i u l)
  pair_at (inr n) (inl (a, b, p)) = inl (a, b, without_first a b n p)
  pair_at (inr n) (inr f) = inr (λ c d j k l w. none c d (begins c d j k l) l w)
    where
      none : (c d : Method) → ((m ≡ c) × In d ms) ⊎ (In c ms × In d ms) → c.number < d.number → U c d → ⊥
      none c d (inl (e, j)) l w = n d j (subst (λ z. U z d) (sym e) w)
      none c d (inr (i, j)) l w = f c d i j l w

pair_in : (U : Method → Method → Type 0) (ms : List Method) → Rises ms → ((a b : Method) → In a ms → In b ms → Known (U a b)) → PairOrNot ms U
pair_in U [] r k = inr (λ a b i j l u. absurd i)
pair_in U (m ∷ ms) r k = pair_at U m ms r (first_in (U m) ms r.1 (λ o i. k m o (inl refl) (inr i))) (pair_in U ms r.1 (λ a b i j. k a b (inr i) (inr j)))

-- those with the property, in the order of the list
record Those (ms : List Method) (Q : Method → Type 0) : Type 0 where
  list : List Method
  rises : Rises list
  from : (m : Method) → In m list → In m ms
  good : (m : Method) → In m list → Q m
  whole : (m : Method) → In m ms → Q m → In m list

those_at : (Q : Method → Type 0) (m : Method) (ms : List Method) → Rises (m ∷ ms) → Known (Q m) → Those ms Q → Those (m ∷ ms) Q
those_at Q m ms r (inl q) t = record {
  list = m ∷ t.list;
  rises = (λ o i. r.0 o (t.from o i), t.rises);
  from = each_of (λ o. In o (m ∷ ms)) m t.list (inl refl) (λ o i. inr (t.from o i));
  good = each_of Q m t.list q t.good;
  whole = each_of (λ o. Q o → In o (m ∷ t.list)) m ms (λ p. inl refl) (λ o i p. inr (t.whole o i p));
}
those_at Q m ms r (inr n) t = record {
  list = t.list;
  rises = t.rises;
  from = λ o i. inr (t.from o i);
  good = t.good;
  whole = each_of (λ o. Q o → In o t.list) m ms (λ p. absurd (n p)) t.whole;
}

those : (Q : Method → Type 0) (ms : List Method) → Rises ms → ((m : Method) → In m ms → Known (Q m)) → Those ms Q
those Q [] r k = record { list = []; rises = tt; from = λ o i. i; good = λ o i. absurd i; whole = λ o i q. i }
those Q (m ∷ ms) r k = those_at Q m ms r (k m (inl refl)) (those Q ms r.1 (λ o i. k o (inr i)))

-- ---- the choice

module _ (n : Table) (ms : List Method) (ts : List Ty) (rises : Rises ms)
    (applies : (m : Method) → In m ms → Known (Applicable n m.sig ts))
    (below : (a b : Method) → In a ms → In b ms → Known (SigBelow n a.sig b.sig)) where
  -- those that apply
  applying : Those ms (λ m. Applicable n m.sig ts)
  applying = those (λ m. Applicable n m.sig ts) ms rises applies

  applies_in : (m : Method) → In m applying.list → Applies n ms ts m
  applies_in m i = record { stands = contains_of ms m (applying.from m i); below = applying.good m i }

  in_applies : (m : Method) → Applies n ms ts m → In m applying.list
  in_applies m a = applying.whole m (in_of ms m a.stands) a.below

  known_same_sig : (a b : Method) → In a ms → In b ms → Known (SameSignature n a.sig b.sig)
  known_same_sig a b i j = known_both (SigBelow n a.sig b.sig) (SigBelow n b.sig a.sig) (below a b i j) (below b a j i)

  known_strictly : (a b : Method) → In a ms → In b ms → Known (StrictlyBelow n a.sig b.sig)
  known_strictly a b i j = known_both (SigBelow n a.sig b.sig) (SigBelow n b.sig a.sig → ⊥) (below a b i j) (known_not (SigBelow n b.sig a.sig) (below b a j i))

  -- no later one of the list replaces it
  abbrev Replaces : Method → Method → Type 0
  Replaces m l = (m.number < l.number) × SameSignature n m.sig l.sig

  abbrev Lasts : Method → Type 0
  Lasts m = (l : Method) → In l applying.list → Replaces m l → ⊥

  known_lasts : (m : Method) → In m applying.list → Known (Lasts m)
  known_lasts m i = known_each (λ l. Replaces m l → ⊥) applying.list
      (λ l j. known_not (Replaces m l) (known_both (m.number < l.number) (SameSignature n m.sig l.sig) (known_less m.number l.number) (known_same_sig m l (applying.from m i) (applying.from l j))))

  -- the candidates
  lasting : Those applying.list Lasts
  lasting = those Lasts applying.list applying.rises known_lasts

  candidate_in : (m : Method) → In m lasting.list → IsCandidate n ms ts m
  candidate_in m i = record { applies = applies_in m (lasting.from m i); last = λ l a p s. lasting.good m i l (in_applies l a) (p, s) }

  in_candidates : (m : Method) → IsCandidate n ms ts m → In m lasting.list
  in_candidates m c = lasting.whole m (in_applies m c.applies) (λ l i r. c.last l (applies_in l i) r.0 r.1)

  in_all : (m : Method) → In m lasting.list → In m ms
  in_all m i = applying.from m (lasting.from m i)

  -- one is below all others
  abbrev Beats : Method → Method → Type 0
  Beats m c = (c.number ≡ m.number → ⊥) → StrictlyBelow n m.sig c.sig

  known_beats : (m c : Method) → Known (c.number ≡ m.number) → Known (StrictlyBelow n m.sig c.sig) → Known (Beats m c)
  known_beats m c (inl e) k = inl (λ d. absurd (d e))
  known_beats m c (inr d) (inl s) = inl (λ e. s)
  known_beats m c (inr d) (inr z) = inr (λ f. z (f d))

  abbrev BeatsAll : Method → Type 0
  BeatsAll m = (c : Method) → In c lasting.list → Beats m c

  known_best : (m : Method) → In m lasting.list → Known (BeatsAll m)
  known_best m i = known_each (Beats m) lasting.list (λ c j. known_beats m c (known_same c.number m.number) (known_strictly m c (in_all m i) (in_all c j)))

  best_of : (m : Method) → In m lasting.list → BeatsAll m → IsBest n ms ts m
  best_of m i h = record { candidate = candidate_in m i; below = λ c k d. h c (in_candidates c k) d }

  beats_of : (m : Method) → IsBest n ms ts m → BeatsAll m
  beats_of m b c i d = b.below c (candidate_in c i) d

  -- neither is below the other
  abbrev Apart : Method → Method → Type 0
  Apart a b = (StrictlyBelow n a.sig b.sig → ⊥) × (StrictlyBelow n b.sig a.sig → ⊥)

  known_apart : (a b : Method) → In a lasting.list → In b lasting.list → Known (Apart a b)
  known_apart a b i j =
      known_both (StrictlyBelow n a.sig b.sig → ⊥) (StrictlyBelow n b.sig a.sig → ⊥) (known_not (StrictlyBelow n a.sig b.sig) (known_strictly a b (in_all a i) (in_all b j)))
      (known_not (StrictlyBelow n b.sig a.sig) (known_strictly b a (in_all b j) (in_all a i)))

  module _ (none : (m : Method) → In m lasting.list → BeatsAll m → ⊥) where
    none_best : (m : Method) → IsBest n ms ts m → ⊥
    none_best m b = none m (in_candidates m b.candidate) (beats_of m b)

    by_pair : (a b : Method) → IsLeastPair lasting.list Apart a b → ChoosesAmbiguous n ms ts a.number b.number
    by_pair a b p = record { none_best = none_best; pair = (a, b, refl, refl, inl (record { unordered = unordered; least = least })) }
      where
        unordered : IsUnordered n ms ts a b
        unordered = record { first = candidate_in a p.first; second = candidate_in b p.second; earlier = p.earlier; not_below = p.has.0; not_above = p.has.1 }

        least : (c d : Method) → IsUnordered n ms ts c d → (a.number < c.number) ⊎ ((a.number ≡ c.number) × (b.number ≤ d.number))
        least c d u = p.least c d (in_candidates c u.first) (in_candidates d u.second) u.earlier (u.not_below, u.not_above)

    not_apart : ((a b : Method) → In a lasting.list → In b lasting.list → a.number < b.number → Apart a b → ⊥) → (e f : Method) → IsUnordered n ms ts e f → ⊥
    not_apart h e f u = h e f (in_candidates e u.first) (in_candidates f u.second) u.earlier (u.not_below, u.not_above)

    -- the first two of the candidates, which are these
    first_two : (cs : List Method) → lasting.list ≡ cs → Rises cs → ((e f : Method) → IsUnordered n ms ts e f → ⊥) → (c : Choice) × Chooses n ms ts c
    first_two [] e r h = (C.None, λ m k. absurd (subst (In m) e (in_candidates m k)))
    first_two (a ∷ []) e r h = absurd (none a (subst (In a) (sym e) (inl refl)) (λ c i d. absurd (alone c (subst (In c) e i) d)))
      where
        alone : (c : Method) → In c (a ∷ []) → (c.number ≡ a.number → ⊥) → ⊥
        alone c (inl f) d = d (ap (λ (z : Method). z.number) (sym f))
        alone c (inr i) d = absurd i
    first_two (a ∷ b ∷ cs) e r h = (C.Ambiguous a.number b.number, record { none_best = none_best; pair = (a, b, refl, refl, inr (h, two)) })
      where
        least : (c : Method) → In c (a ∷ b ∷ cs) → (c.number ≡ a.number) ⊎ (b.number ≤ c.number)
        least c (inl f) = inl (ap (λ (z : Method). z.number) (sym f))
        least c (inr (inl f)) = let q : b.number ≡ c.number = ap (λ (z : Method). z.number) f in inr (omega (arith, q))
        least c (inr (inr i)) = let q = r.1.0 c i in inr (omega (arith, q))

        two : IsFirstTwo n ms ts a b
        two = record {
          first = candidate_in a (subst (In a) (sym e) (inl refl));
          second = candidate_in b (subst (In b) (sym e) (inr (inl refl)));
          earlier = r.0 b (inl refl);
          least = λ c k. least c (subst (In c) e (in_candidates c k));
        }

    no_best : PairOrNot lasting.list Apart → (c : Choice) × Chooses n ms ts c
    no_best (inl (a, b, p)) = (C.Ambiguous a.number b.number, by_pair a b p)
    no_best (inr h) = first_two lasting.list refl lasting.rises (not_apart h)

  by_best : FoundOrNot lasting.list BeatsAll → (c : Choice) × Chooses n ms ts c
  by_best (inl (m, i, h)) = (C.Method m.number, (m, best_of m i h, refl))
  by_best (inr none) = no_best none (pair_in Apart lasting.list lasting.rises known_apart)

  pub choice_there : (c : Choice) × Chooses n ms ts c
  choice_there = by_best (search_in BeatsAll lasting.list known_best)

-- whatever can be decided, there can't be no choice
pub choice_sure : (n : Table) (ms : List Method) (ts : List Ty) → Rises ms → Sure ((c : Choice) × Chooses n ms ts c)
choice_sure n ms ts rises h =
    sure_each ms (λ m. Known (Applicable n m.sig ts)) (λ m. sure_known (Applicable n m.sig ts)) (λ applies.
    sure_each ms (λ a. (b : Method) → In b ms → Known (SigBelow n a.sig b.sig)) (λ a. sure_each ms (λ b. Known (SigBelow n a.sig b.sig)) (λ b. sure_known (SigBelow n a.sig b.sig))) (λ below.
    h (choice_there n ms ts rises applies (λ a b i j. below a i b j))))

-- ---- the choice in a world

module _ (P : Program) (es : List Event) (f : ℕ) (ts : List Ty) (w : ℕ) where
  abbrev Made : List Method
  Made = methods_made P es f w

  made_rise : Rises Made
  made_rise = (methods_rise P f 1 (take w (changes es))).0

  -- those that stand
  standing : ((m : Method) → In m Made → Known (Stands P es f w m)) → Those Made (Stands P es f w)
  standing h = those (Stands P es f w) Made made_rise h

  standing_for : (t : Those Made (Stands P es f w)) → AreMethodsFor P es f ts w t.list
  standing_for t m a = ((λ i. t.good m (in_of t.list m i)), (λ s. contains_of t.list m (t.whole m (in_of Made m s.made) s)))

  pub selected_there : ((m : Method) → In m Made → Known (Stands P es f w m)) → ((m : Method) → In m Made → Known (Applicable (types_of P) m.sig ts))
      → ((a b : Method) → In a Made → In b Made → Known (SigBelow (types_of P) a.sig b.sig)) → (c : Choice) × Selects P es f ts w c
  selected_there stands applies below =
      let t = standing stands in
      let r = choice_there (types_of P) t.list ts t.rises (λ m i. applies m (t.from m i)) (λ a b i j. below a b (t.from a i) (t.from b j)) in
      (r.0, (t.list, standing_for t, r.1))

  pub selected_sure : Sure ((c : Choice) × Selects P es f ts w c)
  selected_sure h =
      sure_each Made (λ m. Known (Stands P es f w m)) (λ m. sure_known (Stands P es f w m)) (λ stands.
      let t = standing stands in
      choice_sure (types_of P) t.list ts t.rises (λ r. h (r.0, (t.list, standing_for t, r.1))))
