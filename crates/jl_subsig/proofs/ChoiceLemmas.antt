-- What is picked is what the rule chooses.
use Rattle.std.proofs.Common.{◌≡◌, ◌∙◌, sym, ap, subst, refl, ◌<◌, ◌≤◌, ◌⊎◌, inl, inr, arith, Bool, true, false, ◌||◌, not, nat_eq, List, [], ◌∷◌, length, Option, None, Some}
use Rattle.std.specs.List.{Contains}
use Rattle.jl_model.specs.declared.ty.Ty.{Ty}
use Rattle.jl_model.specs.declared.ty.Written.{Written}
use Rattle.jl_model.specs.Subtype.{Table}
use Rattle.jl_model.specs.Signature.{Applicable, SigBelow, StrictlyBelow, SameSignature}
use Rattle.jl_model.specs.Choice.{Method, IsCandidate, IsBest, IsUnordered, IsFirstUnordered, IsFirstTwo}
use Rattle.jl_program.specs.Chooses.{Chooses}
use Rattle.jl_subsig.specs.declared.choice.Ranked.{Ranked}
use Rattle.jl_subsig.specs.Decide.{nth, AreCompared, sig_below, same_sig, strictly_below, unordered, candidates, below_others, most_specific, unordered_pair, first_two, by_pair, by_best, choice_among}
use Rattle.jl_subsig.proofs.ChoiceLists.{In, Rises, both, all_to, all_from, find_some, find_none, stands_from_kept, kept_from_stands, kept_rises}
use Rattle.jl_subsig.proofs.ChoicePairs.{IsPair, IsFirstPair, pair_some, pair_none}

-- the method of one with its place
abbrev pub method_at : List Method → Ranked → Method
method_at ms d = record { number = d.number; sig = (nth ms d.place).sig }

-- The methods, the answers of all comparisons, and the methods with their places.
module _ (n : Table) (methods : List Method) (P : List (List Bool)) (compared : AreCompared n methods P) (ts : List Ty) (ds : List Ranked) (rising : Rises ds)
    (placed : (d : Ranked) → In ds d → d.place < length methods) (standing : (d : Ranked) → In ds d → Contains methods (method_at methods d))
    (stand : (m : Method) → Contains methods m → (d : Ranked) × In ds d × (method_at methods d ≡ m)) (apply : (d : Ranked) → In ds d → Applicable n (nth methods d.place).sig ts) where
  abbrev ms : List Method
  ms = methods

  abbrev cs : List Ranked
  cs = candidates P ds

  abbrev method_of : Ranked → Method
  method_of d = method_at methods d

  abbrev sig : Ranked → Written
  sig d = (nth methods d.place).sig

  -- the tests tell the order
  below_to : (d e : Ranked) → In ds d → In ds e → sig_below P d e ≡ true → SigBelow n (sig d) (sig e)
  below_to d e i j h = ((compared.told d.place (placed d i)).told e.place (placed e j)).0 h

  below_from : (d e : Ranked) → In ds d → In ds e → SigBelow n (sig d) (sig e) → sig_below P d e ≡ true
  below_from d e i j h = ((compared.told d.place (placed d i)).told e.place (placed e j)).1 h

  same_to : (d e : Ranked) → In ds d → In ds e → same_sig P d e ≡ true → SameSignature n (sig d) (sig e)
  same_to d e i j h = let (p, q) = both (sig_below P d e) (sig_below P e d) h in (below_to d e i j p, below_to e d j i q)

  same_from : (d e : Ranked) → In ds d → In ds e → SameSignature n (sig d) (sig e) → same_sig P d e ≡ true
  same_from d e i j (p, q) = rw (below_from d e i j p, below_from e d j i q) refl

  strict_to : (d e : Ranked) → In ds d → In ds e → strictly_below P d e ≡ true → StrictlyBelow n (sig d) (sig e)
  strict_to d e i j h =
      let (p, q) = both (sig_below P d e) (not (sig_below P e d)) h in
      (below_to d e i j p, λ r. let z : not true ≡ true = subst (λ b. not b ≡ true) (below_from e d j i r) q in cc)

  strict_from : (d e : Ranked) → In ds d → In ds e → StrictlyBelow n (sig d) (sig e) → strictly_below P d e ≡ true
  strict_from d e i j (p, q) = rw (below_from d e i j p) (cases (sig_below P e d) refl)
    where
      cases : (b : Bool) → sig_below P e d ≡ b → not (sig_below P e d) ≡ true
      cases true r = absurd (q (below_to e d j i r))
      cases false r = rw r refl

  unordered_to : (d e : Ranked) → In ds d → In ds e → unordered P d e ≡ true → (StrictlyBelow n (sig d) (sig e) → ⊥) × (StrictlyBelow n (sig e) (sig d) → ⊥)
  unordered_to d e i j h =
      let (p, q) = both (not (strictly_below P d e)) (not (strictly_below P e d)) h in (
        λ r. (let z : not true ≡ true = subst (λ b. not b ≡ true) (strict_from d e i j r) p in cc),
        λ r. (let z : not true ≡ true = subst (λ b. not b ≡ true) (strict_from e d j i r) q in cc),
      )

  unordered_from : (d e : Ranked) → In ds d → In ds e → (StrictlyBelow n (sig d) (sig e) → ⊥) → (StrictlyBelow n (sig e) (sig d) → ⊥) → unordered P d e ≡ true
  unordered_from d e i j h k = cases (strictly_below P d e) (strictly_below P e d) refl refl
    where
      cases : (b c : Bool) → strictly_below P d e ≡ b → strictly_below P e d ≡ c → unordered P d e ≡ true
      cases true c p q = absurd (h (strict_to d e i j p))
      cases false true p q = absurd (k (strict_to e d j i q))
      cases false false p q = rw (p, q) refl

  -- ---- candidates

  ins : (d : Ranked) → In cs d → In ds d
  ins d i = (stands_from_kept P ds d rising i).is_in

  candidate_to : (d : Ranked) → In cs d → IsCandidate n ms ts (method_of d)
  candidate_to d i =
      let s = stands_from_kept P ds d rising i in
      record {
        applies = record { stands = standing d s.is_in; below = apply d s.is_in };
        last = λ l a m k.
            let r = stand l a.stands in
            s.last r.0 r.1 (later_of d r.0 l r.2 m) (same_from d r.0 s.is_in r.1 (subst (λ (z : Method). SameSignature n (sig d) z.sig) (sym r.2) k));
      }
    where
      later_of : (d e : Ranked) (l : Method) → method_of e ≡ l → d.number < l.number → d.number < e.number
      later_of d e l q m = let b : e.number ≡ l.number = ap (λ (z : Method). z.number) q in omega (arith, b, m)

  candidate_in : (d : Ranked) → In ds d → IsCandidate n ms ts (method_of d) → In cs d
  candidate_in d i h = kept_from_stands P ds d rising (record {
    is_in = i;
    last = λ e j l k. h.last (method_of e) (record { stands = standing e j; below = apply e j }) l (same_to d e i j k);
  })

  -- what holds of the method of each one that is kept holds of each candidate
  from_candidate : (Q : Method → Type 0) → ((d : Ranked) → In cs d → Q (method_of d)) → (m : Method) → IsCandidate n ms ts m → Q m
  from_candidate Q k m h =
      let r = stand m h.applies.stands in
      subst Q r.2 (k r.0 (candidate_in r.0 r.1 (subst (IsCandidate n ms ts) (sym r.2) h)))

  -- ---- the best

  best_to : (d : Ranked) → In cs d → below_others P cs d ≡ true → IsBest n ms ts (method_of d)
  best_to d i h = record {
    candidate = candidate_to d i;
    below = from_candidate (λ c. (c.number ≡ d.number → ⊥) → StrictlyBelow n (sig d) c.sig) other;
  }
    where
      decide : (e : Ranked) → (e.number ≡ d.number → ⊥) → (b : Bool) → nat_eq e.number d.number ≡ b → (b || strictly_below P d e) ≡ true → strictly_below P d e ≡ true
      decide e k true q r = absurd (k (grind (arith, q)))
      decide e k false q r = r

      other : (e : Ranked) → In cs e → (e.number ≡ d.number → ⊥) → StrictlyBelow n (sig d) (sig e)
      other e j k =
          let t = all_to (λ c. nat_eq c.number d.number || strictly_below P d c) cs h e j in
          strict_to d e (ins d i) (ins e j) (decide e k (nat_eq e.number d.number) refl t)

  best_from : (d : Ranked) → In cs d → IsBest n ms ts (method_of d) → below_others P cs d ≡ true
  best_from d i h = all_from (λ c. nat_eq c.number d.number || strictly_below P d c) cs (λ e j. decide e j (nat_eq e.number d.number) refl)
    where
      decide : (e : Ranked) → In cs e → (b : Bool) → nat_eq e.number d.number ≡ b → (nat_eq e.number d.number || strictly_below P d e) ≡ true
      decide e j true q = rw q refl
      decide e j false q =
          let differ : e.number ≡ d.number → ⊥ = λ k. (let w : nat_eq e.number d.number ≡ true = grind (arith, k) in let z : true ≡ false = sym w ∙ q in cc) in
          rw q (strict_from d e (ins d i) (ins e j) (h.below (method_of e) (candidate_to e j) differ))

  no_best : most_specific P cs ≡ None → (m : Method) → IsBest n ms ts m → ⊥
  no_best h m b =
      from_candidate (λ m. IsBest n ms ts m → ⊥) (λ d i b. find_none (below_others P cs) cs h d i (best_from d i b)) m b.candidate b

  -- ---- pairs

  unordered_methods : (a b : Ranked) → IsPair P cs a b → IsUnordered n ms ts (method_of a) (method_of b)
  unordered_methods a b h =
      let (p, q) = unordered_to a b (ins a h.first) (ins b h.second) h.open_ in
      record { first = candidate_to a h.first; second = candidate_to b h.second; earlier = h.earlier; not_below = p; not_above = q }

  -- what holds of the methods of each such pair holds of each unordered pair
  from_unordered : (Q : Method → Method → Type 0) → ((c d : Ranked) → IsPair P cs c d → Q (method_of c) (method_of d)) → (a b : Method) → IsUnordered n ms ts a b → Q a b
  from_unordered Q k a b h =
      from_candidate (λ a. (b : Method) → IsUnordered n ms ts a b → Q a b)
      (λ c i b h. from_candidate (λ b. IsUnordered n ms ts (method_of c) b → Q (method_of c) b)
      (λ d j h. k c d (record { first = i; second = j; earlier = h.earlier; open_ = unordered_from c d (ins c i) (ins d j) h.not_below h.not_above })) b h.second h)
      a h.first b h

  first_unordered : (a b : Ranked) → IsFirstPair P cs a b → IsFirstUnordered n ms ts (method_of a) (method_of b)
  first_unordered a b h = record {
    unordered = unordered_methods a b h.pair;
    least = from_unordered (λ c d. (a.number < c.number) ⊎ ((a.number ≡ c.number) × (b.number ≤ d.number))) h.least;
  }

  -- ---- the choice

  two_first : (a b : Ranked) (rest : List Ranked) → a ∷ b ∷ rest ≡ cs → Rises (a ∷ b ∷ rest) → IsFirstTwo n ms ts (method_of a) (method_of b)
  two_first a b rest e (later, (after, r)) = record {
    first = candidate_to a (subst (λ z. In z a) e (inl refl));
    second = candidate_to b (subst (λ z. In z b) e (inr (inl refl)));
    earlier = later b (inl refl);
    least = from_candidate (λ c. (c.number ≡ a.number) ⊎ (b.number ≤ c.number)) (λ d i. order d (subst (λ z. In z d) (sym e) i));
  }
    where
      order : (d : Ranked) → In (a ∷ b ∷ rest) d → (d.number ≡ a.number) ⊎ (b.number ≤ d.number)
      order d (inl i) = inl (ap (λ z. z.number) (sym i))
      order d (inr (inl i)) = let k : b.number ≡ d.number = ap (λ z. z.number) i in inr (omega arith)
      order d (inr (inr i)) = let k = after d i in inr (omega arith)

  by_first_two : most_specific P cs ≡ None → unordered_pair P cs ≡ None → (xs : List Ranked) → xs ≡ cs → Chooses n ms ts (first_two xs)
  by_first_two h k [] e = λ m c. from_candidate (λ m. ⊥) (λ d i. subst (λ z. In z d) (sym e) i) m c
  by_first_two h k (a ∷ []) e =
      let w : below_others P cs a ≡ true = all_from (λ c. nat_eq c.number a.number || strictly_below P a c) cs (λ d i. alone d (subst (λ z. In z d) (sym e) i)) in
      absurd (find_none (below_others P cs) cs h a (subst (λ z. In z a) e (inl refl)) w)
    where
      alone : (d : Ranked) → In (a ∷ []) d → (nat_eq d.number a.number || strictly_below P a d) ≡ true
      alone d (inl i) = let q : nat_eq d.number a.number ≡ true = (let z : a.number ≡ d.number = ap (λ z. z.number) i in grind (arith, z)) in rw q refl
      alone d (inr i) = absurd i
  by_first_two h k (a ∷ b ∷ rest) e = record {
    none_best = no_best h;
    pair = (
      method_of a,
      method_of b,
      refl,
      refl,
      inr ((λ c d u. from_unordered (λ c d. ⊥) (pair_none P cs (kept_rises P ds rising) k) c d u), two_first a b rest e (subst Rises (sym e) (kept_rises P ds rising))),
    );
  }

  by_pairs : most_specific P cs ≡ None → (o : Option (Ranked × Ranked)) → unordered_pair P cs ≡ o → Chooses n ms ts (by_pair o (first_two cs))
  by_pairs h None k = by_first_two h k cs refl
  by_pairs h (Some p) k = record {
    none_best = no_best h;
    pair = (method_of p.0, method_of p.1, refl, refl, inl (first_unordered p.0 p.1 (pair_some P cs p (kept_rises P ds rising) k)));
  }

  by_bests : (o : Option Ranked) → most_specific P cs ≡ o → Chooses n ms ts (by_best o (by_pair (unordered_pair P cs) (first_two cs)))
  by_bests None h = by_pairs h (unordered_pair P cs) refl
  by_bests (Some d) h =
      let f = find_some (below_others P cs) cs d (kept_rises P ds rising) h in
      (method_of d, best_to d f.is_in f.passes, refl)

  pub chosen_among : Chooses n ms ts (choice_among P cs)
  chosen_among = by_bests (most_specific P cs) refl
