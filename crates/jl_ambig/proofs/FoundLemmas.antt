-- The pairs that are found, probe by probe.
use Rattle.std.proofs.Common.{◌≡◌, ◌∙◌, sym, ap, subst, refl, ℕ, ◌<◌, ◌⊎◌, inl, inr, arith, List, [], ◌∷◌, ◌++◌, append_assoc, take, drop}
use Rattle.std.specs.List.{Contains}
use Rattle.std.specs.Cmp.{IsTotalOrder}
use Rattle.std.specs.Ordering.{nat_cmp, ordering_then, MatchOrdering}
use Rattle.std.specs.declared.cmp.Ordering.{Ordering}
use Rattle.std.specs.declared.cmp.Ordering.TheVariants.{Less, Equal, Greater}
use Rattle.std.proofs.lemmas.Cmp.{ranked, nat_cmp_total, on_total, then_total, tied_itself}
use Rattle.std.proofs.lemmas.List.Elements.{All-contains, Contains-append_cases, Contains-push_cases}
use Rattle.jl_model.specs.declared.ty.Ty.{Ty}
use Rattle.jl_program.specs.declared.choice.Choice.{Choice}
use Rattle.jl_program.specs.declared.choice.Choice.TheVariants as C
use Rattle.jl_program.specs.declared.tree.Program.{Program}
use Rattle.jl_calculus.specs.declared.history.Event.{Event}
use Rattle.jl_calculus.specs.World.{world_of, Selects}
use Rattle.jl_calculus.proofs.SelectLemmas.{selects_one}
use Rattle.jl_ambig.specs.declared.noting.Pair.{Pair}
use Rattle.jl_ambig.specs.Asked.{IsThere, IsPlaceFor, IsNoted, was_there, put_there, IsNotedBy, Probe, pair_of, Names, IsFirstAt, AreFound}
use Rattle.jl_ambig.specs.Pairs.{pair_cmp}
use Rattle.jl_ambig.proofs.Members.{empty, in_part, put_new, put_old, put_was}
use Rattle.jl_ambig.proofs.Sorted.{from_rises, sorted_put}

-- ---- the order of pairs

pub pair_order : IsTotalOrder pair_cmp
pair_order = then_total (on_total (λ (p : Pair). p.a) nat_cmp_total) (on_total (λ (p : Pair). p.b) nat_cmp_total)

nat_tied : (x y : ℕ) → nat_cmp x y ≡ Equal → x ≡ y
nat_tied x y e = by (nat_cmp x y) e (ranked x y (nat_cmp x y) refl)
  where
    by : (o : Ordering) → o ≡ Equal → MatchOrdering o (x < y) (x ≡ y) (y < x) → x ≡ y
    by Less q m = cc
    by Equal q m = m
    by Greater q m = cc

both_tied : (o r : Ordering) → ordering_then o r ≡ Equal → (o ≡ Equal) × (r ≡ Equal)
both_tied Less r e = cc
both_tied Equal r e = (refl, e)
both_tied Greater r e = cc

pub same_pair : (p : Pair) (a b : ℕ) (ts : List Ty) → pair_cmp p (pair_of a b ts) ≡ Equal → (p.a ≡ a) × (p.b ≡ b)
same_pair p a b ts e = let (x, y) = both_tied (nat_cmp p.a a) (nat_cmp p.b b) e in (nat_tied p.a a x, nat_tied p.b b y)

pair_same : (p : Pair) (a b : ℕ) (ts : List Ty) → p.a ≡ a → p.b ≡ b → pair_cmp p (pair_of a b ts) ≡ Equal
pair_same p a b ts x y = ap (λ z. ordering_then (nat_cmp p.a z) (nat_cmp p.b b)) (sym x) ∙ ap (λ z. ordering_then (nat_cmp p.a p.a) (nat_cmp p.b z)) (sym y) ∙ tied_itself pair_order p

same_back : (p : Pair) (a b : ℕ) (ts : List Ty) → p.a ≡ a → p.b ≡ b → pair_cmp (pair_of a b ts) p ≡ Equal
same_back p a b ts x y = ap (λ z. ordering_then (nat_cmp z p.a) (nat_cmp b p.b)) (sym x) ∙ ap (λ z. ordering_then (nat_cmp p.a p.a) (nat_cmp z p.b)) (sym y) ∙ tied_itself pair_order p

-- a pair for which there is a place is not there
not_there : (ps : List Pair) (a b : ℕ) (ts : List Ty) (i : ℕ) → IsPlaceFor pair_cmp (pair_of a b ts) ps i → (p : Pair) → Contains ps p → p.a ≡ a → p.b ≡ b → ⊥
not_there ps a b ts i place p c x y = by (in_part i ps p c)
  where
    by : Contains (take i ps) p ⊎ Contains (drop i ps) p → ⊥
    by (inl k) =
        let l = All-contains (λ z. pair_cmp z (pair_of a b ts) ≡ Less) (take i ps) p place.before k in
        let e = pair_same p a b ts x y in cc
    by (inr k) =
        let l = All-contains (λ z. pair_cmp (pair_of a b ts) z ≡ Less) (drop i ps) p place.after k in
        let e = same_back p a b ts x y in cc

-- ---- one more probe

abbrev first_of : Choice → ℕ
first_of (C.Method d) = 0
first_of C.None = 0
first_of (C.Ambiguous a b) = a

abbrev second_of : Choice → ℕ
second_of (C.Method d) = 0
second_of C.None = 0
second_of (C.Ambiguous a b) = b

abbrev is_pair : Choice → ℕ
is_pair (C.Method d) = 0
is_pair C.None = 0
is_pair (C.Ambiguous a b) = 1

module _ (P : Program) (es : List Event) where
  -- nothing was asked yet
  pub none_found : (ps : List Pair) → ps ≡ [] → AreFound P es [] ps
  none_found ps e = subst (AreFound P es []) (sym e) (record {
    each = λ p c. absurd (empty p c);
    all = λ q a b c n. absurd (empty q c);
    rises = from_rises pair_cmp [] tt;
  })

  more_first : (done more : List Probe) (p : Pair) → IsFirstAt P es done p → IsFirstAt P es (done ++ more) p
  more_first done more p h = record {
    before = h.before;
    at = h.at;
    after = h.after ++ more;
    split = ap (λ qs. qs ++ more) h.split ∙ append_assoc h.before (h.at ∷ h.after) more;
    types_are = h.types_are;
    is_named = h.is_named;
    first = h.first;
  }

  -- probes at which none is named
  pub found_silent : (done more : List Probe) → ((q : Probe) → Contains more q → (a b : ℕ) → Names P es q a b → ⊥) → (ps : List Pair) → AreFound P es done ps → AreFound P es (done ++ more) ps
  found_silent done more none ps h = record { each = λ p c. more_first done more p (h.each p c); all = λ q a b c n. by q a b n (Contains-append_cases done more q c); rises = h.rises }
    where
      by : (q : Probe) (a b : ℕ) → Names P es q a b → Contains done q ⊎ Contains more q → (p : Pair) × Contains ps p × (p.a ≡ a) × (p.b ≡ b)
      by q a b n (inl c) = h.all q a b c n
      by q a b n (inr c) = absurd (none q c a b n)

  -- a probe at which a pair is named
  module _ (done : List Probe) (at : Probe) (a b : ℕ) (names : Names P es at a b) (old : List Pair) (h : AreFound P es done old) where
    one : (c d : ℕ) → Names P es at c d → (a ≡ c) × (b ≡ d)
    one c d n = let e = selects_one P es at.function at.types (world_of es) (C.Ambiguous a b) (C.Ambiguous c d) names n in (ap first_of e, ap second_of e)

    others : (new : List Pair) → ((p : Pair) → Contains old p → Contains new p) → (p : Pair) → Contains new p → p.a ≡ a → p.b ≡ b → (q : Probe) (c d : ℕ) → Names P es q c d → Contains done q ⊎ (at ≡ q)
        → (r : Pair) × Contains new r × (r.a ≡ c) × (r.b ≡ d)
    others new keep p k x y q c d n (inl i) = let (r, j, u, v) = h.all q c d i n in (r, keep r j, u, v)
    others new keep p k x y q c d n (inr e) = let (u, v) = one c d (subst (λ z. Names P es z c d) (sym e) n) in (p, k, x ∙ u, y ∙ v)

    there_found : IsThere pair_cmp (pair_of a b at.types) old → AreFound P es (done ++ at ∷ []) old
    there_found (p, k, e) =
        let (x, y) = same_pair p a b at.types e in
        record { each = λ r c. more_first done (at ∷ []) r (h.each r c); all = λ q c d i n. others old (λ r j. j) p k x y q c d n (Contains-push_cases done at q i); rises = h.rises }

    put_found : (i : ℕ) → IsPlaceFor pair_cmp (pair_of a b at.types) old i → AreFound P es (done ++ at ∷ []) (take i old ++ pair_of a b at.types ∷ drop i old)
    put_found i place = record {
      each = λ p c. by p (put_was i old (pair_of a b at.types) p c);
      all = λ q c d k n.
          others (take i old ++ pair_of a b at.types ∷ drop i old) (λ r j. put_old i old (pair_of a b at.types) r j) (pair_of a b at.types) (put_new i old (pair_of a b at.types)) refl refl q c d n
          (Contains-push_cases done at q k);
      rises = sorted_put pair_cmp i old (pair_of a b at.types) h.rises place;
    }
      where
        own : IsFirstAt P es (done ++ at ∷ []) (pair_of a b at.types)
        own = record {
          before = done;
          at = at;
          after = [];
          split = refl;
          types_are = refl;
          is_named = names;
          first = λ q c n. (let (r, j, u, v) = h.all q a b c n in not_there old a b at.types i place r j u v);
        }

        by : (p : Pair) → Contains old p ⊎ (pair_of a b at.types ≡ p) → IsFirstAt P es (done ++ at ∷ []) p
        by p (inl c) = more_first done (at ∷ []) p (h.each p c)
        by p (inr e) = subst (IsFirstAt P es (done ++ at ∷ [])) e own

    noted_found : (new : List Pair) → IsNoted a b at.types old new → AreFound P es (done ++ at ∷ []) new
    noted_found new (was_there k e) = subst (AreFound P es (done ++ at ∷ [])) (sym e) (there_found k)
    noted_found new (put_there i place e) = subst (AreFound P es (done ++ at ∷ [])) (sym e) (put_found i place)

  one_silent : (done : List Probe) (at : Probe) (c : Choice) → is_pair c ≡ 0 → Selects P es at.function at.types (world_of es) c → (old new : List Pair) → new ≡ old → AreFound P es done old
      → AreFound P es (done ++ at ∷ []) new
  one_silent done at c z s old new e h = subst (AreFound P es (done ++ at ∷ [])) (sym e) (found_silent done (at ∷ []) none old h)
    where
      never : (a b : ℕ) → Names P es at a b → ⊥
      never a b n = let q = ap is_pair (selects_one P es at.function at.types (world_of es) c (C.Ambiguous a b) s n) in absurd (omega (arith, z, q))

      by : (q : Probe) → Contains [] q ⊎ (at ≡ q) → (a b : ℕ) → Names P es q a b → ⊥
      by q (inl k) a b n = empty q k
      by q (inr r) a b n = never a b (subst (λ x. Names P es x a b) (sym r) n)

      none : (q : Probe) → Contains (at ∷ []) q → (a b : ℕ) → Names P es q a b → ⊥
      none q k = by q (Contains-push_cases [] at q k)

  -- a probe, whatever is chosen at it
  pub choice_found : (done : List Probe) (at : Probe) (c : Choice) → Selects P es at.function at.types (world_of es) c → (old new : List Pair) → IsNotedBy c at.types old new → AreFound P es done old
      → AreFound P es (done ++ at ∷ []) new
  choice_found done at (C.Method d) s old new e h = one_silent done at (C.Method d) refl s old new e h
  choice_found done at C.None s old new e h = one_silent done at C.None refl s old new e h
  choice_found done at (C.Ambiguous a b) s old new n h = noted_found done at a b s old h new n
