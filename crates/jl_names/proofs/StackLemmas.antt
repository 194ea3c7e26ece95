-- Names of which a later one hides an equal one before it: one more, and one less.
use Rattle.std.proofs.Common.{◌≡◌, ◌∙◌, refl, sym, ap, subst, ℕ, zero, suc, ◌+◌, ◌<◌, arith, nat_eq, nat_lt, Bool, true, false, cond, List, [], ◌∷◌, ◌++◌, length, get_or, Option, Some, None, is_some, append_assoc}
use Rattle.std.proofs.lemmas.List.{append-nil, map-append, length-map}
use Rattle.std.specs.Cmp.Lexicographic.{pointwise}
use Rattle.std.specs.Option.{option_or}
use Rattle.jl_program.specs.Names.{same_text}
use Rattle.jl_names.specs.declared.stack.Stacked.{Stacked}
use Rattle.jl_names.specs.Numbers.{Numbered, number_in, renumber, with_newer}
use Rattle.jl_names.specs.Stacks.{last_from, last_place, hidden_after, texts_of, hides_of, IsStack}
use Rattle.jl_names.proofs.NumberLemmas.{text_is, or_else, number_append}
use Rattle.jl_names.proofs.DeclLemmas.{text_self}
use Rattle.jl_names.proofs.EntryLemmas.{same_bytes}

-- THE TABLE
renumber_same : (es : List Numbered) (e : Numbered) (k : ℕ) → number_in es e.0 ≡ Some k → number_in (renumber es e) e.0 ≡ Some e.1
renumber_same [] e k h = absurd (let f : None ≡ Some k = h in cc)
renumber_same (x ∷ xs) e k h = by (same_text e.0 x.0) refl h (renumber_same xs e k)
  where
    by : (b : Bool) → same_text e.0 x.0 ≡ b → cond b (Some x.1) (number_in xs e.0) ≡ Some k → (number_in xs e.0 ≡ Some k → number_in (renumber xs e) e.0 ≡ Some e.1)
        → number_in (cond b ((x.0, e.1) ∷ xs) (x ∷ renumber xs e)) e.0 ≡ Some e.1
    by true p g r = ap (λ b. cond b (Some e.1) (number_in xs e.0)) p
    by false p g r = ap (λ b. cond b (Some x.1) (number_in (renumber xs e) e.0)) p ∙ r g

renumber_other : (es : List Numbered) (e : Numbered) (n : List ℕ) → same_text n e.0 ≡ false → number_in (renumber es e) n ≡ number_in es n
renumber_other [] e n h = refl
renumber_other (x ∷ xs) e n h = by (same_text e.0 x.0) refl (renumber_other xs e n h)
  where
    by : (b : Bool) → same_text e.0 x.0 ≡ b → number_in (renumber xs e) n ≡ number_in xs n → number_in (cond b ((x.0, e.1) ∷ xs) (x ∷ renumber xs e)) n ≡ cond (same_text n x.0) (Some x.1) (number_in xs n)
    by true p r =
        let i = text_is e.0 x.0 p in
        let f : same_text n x.0 ≡ false = ap (same_text n) (sym i) ∙ h in
        ap (λ b. cond b (Some e.1) (number_in xs n)) f ∙ sym (ap (λ b. cond b (Some x.1) (number_in xs n)) f)
    by false p r = ap (cond (same_text n x.0) (Some x.1)) r

newer_same : (es : List Numbered) (e : Numbered) → number_in (with_newer es e) e.0 ≡ Some e.1
newer_same es e = by (number_in es e.0) refl
  where
    by : (o : Option ℕ) → number_in es e.0 ≡ o → number_in (with_newer es e) e.0 ≡ Some e.1
    by (Some k) g = ap (λ o. number_in (cond (is_some o) (renumber es e) (es ++ e ∷ [])) e.0) g ∙ renumber_same es e k g
    by None g =
        ap (λ o. number_in (cond (is_some o) (renumber es e) (es ++ e ∷ [])) e.0) g
        ∙ number_append es (e ∷ []) e.0 ∙ ap (λ o. or_else o (number_in (e ∷ []) e.0)) g ∙ ap (λ b. cond b (Some e.1) None) (text_self e.0)

newer_other : (es : List Numbered) (e : Numbered) (n : List ℕ) → same_text n e.0 ≡ false → number_in (with_newer es e) n ≡ number_in es n
newer_other es e n h = by (is_some (number_in es e.0))
  where
    none : (o : Option ℕ) → or_else o None ≡ o
    none None = refl
    none (Some k) = refl

    by : (b : Bool) → number_in (cond b (renumber es e) (es ++ e ∷ [])) n ≡ number_in es n
    by true = renumber_other es e n h
    by false = number_append es (e ∷ []) n ∙ ap (λ b. or_else (number_in es n) (cond b (Some e.1) None)) h ∙ none (number_in es n)

-- THE LAST PLACE
last_snoc : (i : ℕ) (ns : List (List ℕ)) (n m : List ℕ) → last_from i (ns ++ n ∷ []) m ≡ cond (same_text m n) (Some (i + length ns)) (last_from i ns m)
last_snoc i [] n m = let e : i ≡ i + 0 = omega arith in ap (λ k. cond (same_text m n) (Some k) None) e
last_snoc i (k ∷ ns) n m = ap (λ o. option_or o (cond (same_text m k) (Some i) None)) (last_snoc (i + 1) ns n m) ∙ by (same_text m n)
  where
    by : (b : Bool) → option_or (cond b (Some (i + 1 + length ns)) (last_from (i + 1) ns m)) (cond (same_text m k) (Some i) None) ≡ cond b (Some (i + suc (length ns))) (last_from i (k ∷ ns) m)
    by true = let e : i + 1 + length ns ≡ i + suc (length ns) = omega arith in ap Some e
    by false = refl

-- where the last of a name stands, the name stands
last_is : (i : ℕ) (ns : List (List ℕ)) (n : List ℕ) (p : ℕ) → last_from i ns n ≡ Some p → (k : ℕ) × ((p ≡ i + k) × ((k < length ns) × (same_text n (get_or ns k []) ≡ true)))
last_is i [] n p h = absurd (let f : None ≡ Some p = h in cc)
last_is i (m ∷ ns) n p h = by (last_from (i + 1) ns n) (same_text n m) refl refl h (last_is (i + 1) ns n p)
  where
    Goal : Type 0
    Goal = (k : ℕ) × ((p ≡ i + k) × ((k < suc (length ns)) × (same_text n (get_or (m ∷ ns) k []) ≡ true)))

    by : (o : Option ℕ) (b : Bool) → last_from (i + 1) ns n ≡ o → same_text n m ≡ b → option_or o (cond b (Some i) None) ≡ Some p
        → (last_from (i + 1) ns n ≡ Some p → (k : ℕ) × ((p ≡ i + 1 + k) × ((k < length ns) × (same_text n (get_or ns k []) ≡ true)))) → Goal
    by (Some q) b e g f r =
        let w = r (e ∙ f) in
        let a = w.1.0 in
        let l = w.1.1.0 in
        (suc w.0, (omega (arith, a), (omega (arith, l), w.1.1.1)))
    by None true e g f r = let a : i ≡ p = (let z : Some i ≡ Some p = f in cc) in (zero, (omega (arith, a), (omega arith, g)))
    by None false e g f r = absurd (let z : None ≡ Some p = f in cc)

-- where a name stands, it has a last place
last_some : (i : ℕ) (ns : List (List ℕ)) (n : List ℕ) (k : ℕ) → k < length ns → same_text n (get_or ns k []) ≡ true → (p : ℕ) × (last_from i ns n ≡ Some p)
last_some i [] n k l h = absurd (omega (arith, l))
last_some i (m ∷ ns) n zero l h = by (last_from (i + 1) ns n)
  where
    by : (o : Option ℕ) → (p : ℕ) × (option_or o (cond (same_text n m) (Some i) None) ≡ Some p)
    by (Some q) = (q, refl)
    by None = (i, ap (λ b. cond b (Some i) None) h)
last_some i (m ∷ ns) n (suc k) l h =
    let r = last_some (i + 1) ns n k (omega (arith, l)) h in
    (r.0, ap (λ o. option_or o (cond (same_text n m) (Some i) None)) r.1)

-- a place of the table is the last, where the name stands there
pub found_here : (xs : List Stacked) (es : List Numbered) (n : List ℕ) (p : ℕ) → IsStack xs es → number_in es n ≡ Some p → p < length (texts_of xs) → same_text n (get_or (texts_of xs) p []) ≡ true
    → last_place (texts_of xs) n ≡ Some p
found_here xs es n p s h l e =
    let w = last_some 0 (texts_of xs) n p l e in
    let f : Some w.0 ≡ Some p = sym (s.1 n w.0 w.1) ∙ h in
    w.1 ∙ f

pub found_none : (xs : List Stacked) (es : List Numbered) (n : List ℕ) → IsStack xs es → number_in es n ≡ None → last_place (texts_of xs) n ≡ None
found_none xs es n s h = by (last_place (texts_of xs) n) refl
  where
    by : (o : Option ℕ) → last_place (texts_of xs) n ≡ o → last_place (texts_of xs) n ≡ None
    by None e = e
    by (Some q) e = absurd (let f : None ≡ Some q = sym h ∙ s.1 n q e in cc)

-- and where another name stands there, or none, the name stands nowhere
pub found_stale : (xs : List Stacked) (es : List Numbered) (n : List ℕ) (p : ℕ) → IsStack xs es → number_in es n ≡ Some p
    → (p < length (texts_of xs) → same_text n (get_or (texts_of xs) p []) ≡ true → ⊥) → last_place (texts_of xs) n ≡ None
found_stale xs es n p s h never = by (last_place (texts_of xs) n) refl
  where
    by : (o : Option ℕ) → last_place (texts_of xs) n ≡ o → last_place (texts_of xs) n ≡ None
    by None e = e
    by (Some q) e =
        let w = last_is 0 (texts_of xs) n q e in
        let f : Some q ≡ Some p = sym (s.1 n q e) ∙ h in
        let g : q ≡ p = cc in
        let k = w.1.0 in
        let a : w.0 ≡ p = omega (arith, k, g) in
        let l = w.1.1.0 in
        absurd (never (omega (arith, l, a)) (ap (λ z. same_text n (get_or (texts_of xs) z [])) (sym a) ∙ w.1.1.1))

-- WHAT A SEARCH SEES
text_at : (xs : List Stacked) (p : ℕ) (d : Stacked) → p < length xs → get_or (texts_of xs) p [] ≡ (get_or xs p d).name
text_at [] p d l = absurd (omega (arith, l))
text_at (x ∷ xs) zero d l = refl
text_at (x ∷ xs) (suc p) d l = text_at xs p d (omega (arith, l))

texts_long : (xs : List Stacked) → length xs ≡ length (texts_of xs)
texts_long xs = sym (length-map xs (λ (y : Stacked). y.name))

module _ (xs : List Stacked) (es : List Numbered) (n : List ℕ) (p : ℕ) (s : IsStack xs es) (h : number_in es n ≡ Some p) where
  pub seen_past : nat_lt p (length xs) ≡ false → last_place (texts_of xs) n ≡ None
  seen_past l = found_stale xs es n p s h (λ k e. let a = texts_long xs in let c : p < length xs = omega (arith, k, a) in absurd (let f : true ≡ false = grind (arith, c, l) in cc))

  module _ (x d : Stacked) (m : List ℕ) (l : nat_lt p (length xs) ≡ true) (g : x ≡ get_or xs p d) (i : m ≡ x.name) where
    inside : p < length xs
    inside = grind (arith, l)

    text : get_or (texts_of xs) p [] ≡ m
    text = text_at xs p d inside ∙ ap (λ (z : Stacked). z.name) (sym g) ∙ sym i

    pub seen_here : pointwise nat_eq m n ≡ true → last_place (texts_of xs) n ≡ Some p
    seen_here e =
        let a : m ≡ n = text_is m n (sym (same_bytes m n) ∙ e) in
        let b = texts_long xs in
        let c = inside in
        found_here xs es n p s h (omega (arith, b, c)) (ap (same_text n) (text ∙ a) ∙ text_self n)

    pub seen_other : pointwise nat_eq m n ≡ false → last_place (texts_of xs) n ≡ None
    seen_other e = found_stale xs es n p s h (λ k f. let a : n ≡ m = text_is n m (ap (same_text n) (sym text) ∙ f) in let b : false ≡ true = sym (sym (same_bytes m n) ∙ e) ∙ ap (λ z. same_text z n) (sym a) ∙ text_self n in absurd (let c = b in cc))

-- what a search finds, by an equal list and an equal name
pub told : (xs zs : List Stacked) (es : List Numbered) (n m : List ℕ) (known hides : Option ℕ) → IsStack xs es → zs ≡ xs → m ≡ n → known ≡ number_in es n
    → ((table : List Numbered) → IsStack zs table → known ≡ number_in table m → hides ≡ last_place (texts_of zs) m) → hides ≡ last_place (texts_of xs) n
told xs zs es n m known hides s e i k f =
    f es (subst (λ z. IsStack z es) (sym e) s) (k ∙ ap (number_in es) (sym i)) ∙ ap (λ z. last_place (texts_of z) m) e ∙ ap (last_place (texts_of xs)) i

-- WHAT IS HIDDEN
hidden_snoc : (before ns : List (List ℕ)) (n : List ℕ) → hidden_after before (ns ++ n ∷ []) ≡ hidden_after before ns ++ last_place (before ++ ns) n ∷ []
hidden_snoc before [] n = ap (λ z. last_place z n ∷ []) (sym (append-nil before))
hidden_snoc before (m ∷ ns) n =
    ap (λ z. last_place before m ∷ z) (hidden_snoc (before ++ m ∷ []) ns n ∙ ap (λ z. hidden_after (before ++ m ∷ []) ns ++ last_place z n ∷ []) (append_assoc before (m ∷ []) ns))

hidden_long : (before ns : List (List ℕ)) → length (hidden_after before ns) ≡ length ns
hidden_long before [] = refl
hidden_long before (n ∷ ns) = ap suc (hidden_long (before ++ n ∷ []) ns)

-- a list with one more at its end tells both
ended : {A : Type 0} (xs ys : List A) (x y : A) → length xs ≡ length ys → xs ++ x ∷ [] ≡ ys ++ y ∷ [] → (xs ≡ ys) × (x ≡ y)
ended [] [] x y l h = (refl, let f : x ∷ [] ≡ y ∷ [] = h in cc)
ended [] (b ∷ ys) x y l h = absurd (let f : 0 ≡ suc (length ys) = l in omega (arith, f))
ended (a ∷ xs) [] x y l h = absurd (let f : suc (length xs) ≡ 0 = l in omega (arith, f))
ended (a ∷ xs) (b ∷ ys) x y l h =
    let f : a ∷ (xs ++ x ∷ []) ≡ b ∷ (ys ++ y ∷ []) = h in
    let g : a ≡ b = cc in
    let t : xs ++ x ∷ [] ≡ ys ++ y ∷ [] = cc in
    let m : suc (length xs) ≡ suc (length ys) = l in
    let r = ended xs ys x y (omega (arith, m)) t in
    let i = r.0 in
    ((let z : a ∷ xs ≡ b ∷ ys = cc in z), r.1)

texts_snoc : (xs : List Stacked) (x : Stacked) → texts_of (xs ++ x ∷ []) ≡ texts_of xs ++ x.name ∷ []
texts_snoc xs x = map-append (λ (y : Stacked). y.name) xs (x ∷ [])

hides_snoc : (xs : List Stacked) (x : Stacked) → hides_of (xs ++ x ∷ []) ≡ hides_of xs ++ x.hides ∷ []
hides_snoc xs x = map-append (λ (y : Stacked). y.hides) xs (x ∷ [])

hides_long : (xs : List Stacked) → length (hides_of xs) ≡ length (hidden_after [] (texts_of xs))
hides_long xs = length-map xs (λ (y : Stacked). y.hides) ∙ sym (hidden_long [] (texts_of xs) ∙ length-map xs (λ (y : Stacked). y.name))

-- the table has the last place of each of these names
abbrev Knows : List (List ℕ) → List Numbered → Type 0
Knows ns es = (m : List ℕ) (p : ℕ) → last_place ns m ≡ Some p → number_in es m ≡ Some p

knows_push : (ns : List (List ℕ)) (n : List ℕ) (es fs : List Numbered) → Knows ns es → fs ≡ with_newer es (n, length ns) → Knows (ns ++ n ∷ []) fs
knows_push ns n es fs s f m p h = by (same_text m n) refl (sym (last_snoc 0 ns n m) ∙ h)
  where
    by : (b : Bool) → same_text m n ≡ b → cond b (Some (0 + length ns)) (last_place ns m) ≡ Some p → number_in fs m ≡ Some p
    by true e g =
        let a : 0 + length ns ≡ length ns = omega arith in
        ap (number_in fs) (text_is m n e) ∙ ap (λ z. number_in z n) f ∙ newer_same es (n, length ns) ∙ ap Some (sym a) ∙ g
    by false e g = ap (λ z. number_in z m) f ∙ newer_other es (n, length ns) m e ∙ s m p g

-- the name before the last of a list is found again
knows_pop : (ns : List (List ℕ)) (n : List ℕ) (q : ℕ) (es fs : List Numbered) → Knows (ns ++ n ∷ []) es → last_place ns n ≡ Some q → fs ≡ renumber es (n, q) → Knows ns fs
knows_pop ns n q es fs s g f m p h = by (same_text m n) refl
  where
    here : number_in es n ≡ Some (0 + length ns)
    here = s n (0 + length ns) (last_snoc 0 ns n n ∙ ap (λ b. cond b (Some (0 + length ns)) (last_place ns n)) (text_self n))

    by : (b : Bool) → same_text m n ≡ b → number_in fs m ≡ Some p
    by true e =
        let i = text_is m n e in
        ap (number_in fs) i ∙ ap (λ z. number_in z n) f ∙ renumber_same es (n, q) (0 + length ns) here ∙ sym g ∙ ap (last_place ns) (sym i) ∙ h
    by false e = ap (λ z. number_in z m) f ∙ renumber_other es (n, q) m e ∙ s m p (last_snoc 0 ns n m ∙ ap (λ b. cond b (Some (0 + length ns)) (last_place ns m)) e ∙ h)

knows_less : (ns : List (List ℕ)) (n : List ℕ) (es : List Numbered) → Knows (ns ++ n ∷ []) es → last_place ns n ≡ None → Knows ns es
knows_less ns n es s g m p h = by (same_text m n) refl
  where
    by : (b : Bool) → same_text m n ≡ b → number_in es m ≡ Some p
    by true e = absurd (let f : None ≡ Some p = sym g ∙ ap (last_place ns) (sym (text_is m n e)) ∙ h in cc)
    by false e = s m p (last_snoc 0 ns n m ∙ ap (λ b. cond b (Some (0 + length ns)) (last_place ns m)) e ∙ h)

-- one more name, after room was made for it
pub pushed : (xs zs ys : List Stacked) (x : Stacked) (es fs : List Numbered) (at : ℕ)
    → IsStack xs es → zs ≡ xs → ys ≡ zs ++ x ∷ [] → x.hides ≡ last_place (texts_of xs) x.name → at ≡ length xs → fs ≡ with_newer es (x.name, at) → IsStack ys fs
pushed xs zs ys x es fs at s e k h a f = (
  ap hides_of g ∙ hides_snoc xs x ∙ ap (λ z. z ++ x.hides ∷ []) s.0 ∙ ap (λ z. hidden_after [] (texts_of xs) ++ z ∷ []) h
      ∙ sym (ap (hidden_after []) names ∙ hidden_snoc [] (texts_of xs) x.name),
  λ m p q. knows_push (texts_of xs) x.name es fs s.1 (f ∙ ap (λ z. with_newer es (x.name, z)) (a ∙ texts_long xs)) m p (ap (λ z. last_place z m) (sym names) ∙ q),
)
  where
    g : ys ≡ xs ++ x ∷ []
    g = k ∙ ap (λ z. z ++ x ∷ []) e

    names : texts_of ys ≡ texts_of xs ++ x.name ∷ []
    names = ap texts_of g ∙ texts_snoc xs x

module _ (xs ys : List Stacked) (x : Stacked) (es : List Numbered) (s : IsStack xs es) (g : xs ≡ ys ++ x ∷ []) where
  names_were : texts_of xs ≡ texts_of ys ++ x.name ∷ []
  names_were = ap texts_of g ∙ texts_snoc ys x

  knew : Knows (texts_of ys ++ x.name ∷ []) es
  knew m p h = s.1 m p (ap (λ z. last_place z m) names_were ∙ h)

  hid : (hides_of ys ≡ hidden_after [] (texts_of ys)) × (x.hides ≡ last_place (texts_of ys) x.name)
  hid =
      ended (hides_of ys) (hidden_after [] (texts_of ys)) x.hides (last_place (texts_of ys) x.name) (hides_long ys)
      (sym (ap hides_of g ∙ hides_snoc ys x) ∙ s.0 ∙ ap (hidden_after []) names_were ∙ hidden_snoc [] (texts_of ys) x.name)

  -- without the last, which hid one
  pub popped : (fs : List Numbered) (name : List ℕ) (q : ℕ) → x.hides ≡ Some q → name ≡ x.name → fs ≡ renumber es (name, q) → IsStack ys fs
  popped fs name q h i f = (hid.0, knows_pop (texts_of ys) x.name q es fs knew (sym hid.1 ∙ h) (f ∙ ap (λ z. renumber es (z, q)) i))

  -- without the last, which hid none
  pub popped_bare : x.hides ≡ None → IsStack ys es
  popped_bare h = (hid.0, knows_less (texts_of ys) x.name es knew (sym hid.1 ∙ h))
