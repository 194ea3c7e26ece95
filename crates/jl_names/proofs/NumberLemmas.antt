-- The first number of a name, by the list and by the map.
use Rattle.std.proofs.Common.{◌≡◌, ◌∙◌, refl, sym, ap, ℕ, suc, ◌+◌, ◌-◌, ◌≤◌, arith, Bool, true, false, cond, ◌&&◌, ◌==◌, List, [], ◌∷◌, ◌++◌, length, take, drop, Option, Some, None, is_some, append-nil, length-append, length-drop}
use Rattle.std.proofs.lemmas.List.{take-append-drop}
use Rattle.std.proofs.Math.Seq.{take-append_seam}
use Rattle.jl_program.specs.Names.{same_text}
use Rattle.jl_grammar.specs.declared.tree.Name.{Name}
use Rattle.jl_names.specs.Numbers.{Numbered, number_in, with_number, first_numbers_after, first_numbers, with_places, with_marks_of, named_slots, count_named}

-- equal texts
pub text_is : (a b : List ℕ) → same_text a b ≡ true → a ≡ b
text_is [] [] h = refl
text_is [] (y ∷ ys) h = absurd (let f : false ≡ true = h in cc)
text_is (x ∷ xs) [] h = absurd (let f : false ≡ true = h in cc)
text_is (x ∷ xs) (y ∷ ys) h = by (x == y) refl h (text_is xs ys)
  where
    by : (b : Bool) → (x == y) ≡ b → (b && same_text xs ys) ≡ true → (same_text xs ys ≡ true → xs ≡ ys) → x ∷ xs ≡ y ∷ ys
    by true e g r = let p : x ≡ y = grind (arith, e) in let q = r g in cc
    by false e g r = absurd (let f : false ≡ true = g in cc)

-- one, or else the other
abbrev pub or_else : Option ℕ → Option ℕ → Option ℕ
or_else (Some n) o = Some n
or_else None o = o

or_none : (o : Option ℕ) → or_else o None ≡ o
or_none None = refl
or_none (Some n) = refl

or_or : (a b c : Option ℕ) → or_else (or_else a b) c ≡ or_else a (or_else b c)
or_or None b c = refl
or_or (Some n) b c = refl

pub number_append : (xs ys : List Numbered) (n : List ℕ) → number_in (xs ++ ys) n ≡ or_else (number_in xs n) (number_in ys n)
number_append [] ys n = refl
number_append (x ∷ xs) ys n = by (same_text n x.0) (number_append xs ys n)
  where
    by : (b : Bool) → number_in (xs ++ ys) n ≡ or_else (number_in xs n) (number_in ys n) → cond b (Some x.1) (number_in (xs ++ ys) n) ≡ or_else (cond b (Some x.1) (number_in xs n)) (number_in ys n)
    by true r = refl
    by false r = r

-- one more name changes nothing else
with_same : (es : List Numbered) (e : Numbered) (n : List ℕ) → number_in (with_number es e) n ≡ or_else (number_in es n) (number_in (e ∷ []) n)
with_same es e n = by (number_in es e.0) refl
  where
    found : (k : ℕ) (b : Bool) → number_in es e.0 ≡ Some k → same_text n e.0 ≡ b → number_in es n ≡ or_else (number_in es n) (cond b (Some e.1) None)
    found k true g h = let i = text_is n e.0 h in let f : number_in es n ≡ Some k = ap (number_in es) i ∙ g in ap (λ o. o) f ∙ sym (ap (λ o. or_else o (Some e.1)) f)
    found k false g h = sym (or_none (number_in es n))

    by : (o : Option ℕ) → number_in es e.0 ≡ o → number_in (with_number es e) n ≡ or_else (number_in es n) (number_in (e ∷ []) n)
    by None g = ap (λ o. number_in (cond (is_some o) es (es ++ e ∷ [])) n) g ∙ number_append es (e ∷ []) n
    by (Some k) g = ap (λ o. number_in (cond (is_some o) es (es ++ e ∷ [])) n) g ∙ found k (same_text n e.0) g refl

firsts_from : (xs es : List Numbered) (n : List ℕ) → number_in (first_numbers_after es xs) n ≡ or_else (number_in es n) (number_in xs n)
firsts_from [] es n = sym (or_none (number_in es n))
firsts_from (x ∷ xs) es n =
    firsts_from xs (with_number es x) n
    ∙ ap (λ o. or_else o (number_in xs n)) (with_same es x n)
    ∙ or_or (number_in es n) (number_in (x ∷ []) n) (number_in xs n)
    ∙ ap (or_else (number_in es n)) (sym (number_append (x ∷ []) xs n))

-- the map tells the first number in the list
pub first_numbers_first : (es xs : List Numbered) (n : List ℕ) → es ≡ first_numbers xs → number_in es n ≡ number_in xs n
first_numbers_first es xs n e = ap (λ z. number_in z n) e ∙ firsts_from xs [] n

pub firsts_snoc : (xs : List Numbered) (x : Numbered) (es : List Numbered) → first_numbers_after es (xs ++ x ∷ []) ≡ with_number (first_numbers_after es xs) x
firsts_snoc [] x es = refl
firsts_snoc (y ∷ ys) x es = firsts_snoc ys x (with_number es y)

-- one more name at the end of the list
pub first_numbers_push : (es fs xs ys : List Numbered) (x : Numbered) → es ≡ first_numbers xs → fs ≡ with_number es x → ys ≡ xs ++ x ∷ [] → fs ≡ first_numbers ys
first_numbers_push es fs xs ys x e f g = f ∙ ap (λ z. with_number z x) e ∙ sym (firsts_snoc xs x []) ∙ ap first_numbers (sym g)

pub with_places_snoc : (ns : List (List ℕ)) (n : List ℕ) (i : ℕ) → with_places i (ns ++ n ∷ []) ≡ with_places i ns ++ (n, i + length ns) ∷ []
with_places_snoc [] n i = let e : i ≡ i + 0 = omega arith in ap (λ z. (n, z) ∷ []) e
with_places_snoc (m ∷ ms) n i = let e : i + 1 + length ms ≡ i + suc (length ms) = omega arith in ap (λ z. (m, i) ∷ z) (with_places_snoc ms n (i + 1) ∙ ap (λ z. with_places (i + 1) ms ++ (n, z) ∷ []) (e))

pub place_push : (es fs : List Numbered) (ns ms : List (List ℕ)) (n : List ℕ) (at : ℕ)
    → es ≡ first_numbers (with_places 0 ns) → at ≡ length ns → fs ≡ with_number es (n, at) → ms ≡ ns ++ n ∷ [] → fs ≡ first_numbers (with_places 0 ms)
place_push es fs ns ms n at e a f g =
    first_numbers_push es fs (with_places 0 ns) (with_places 0 ms) (n, length ns) e (f ∙ ap (λ z. with_number es (n, z)) a)
    (ap (with_places 0) g ∙ with_places_snoc ns n 0 ∙ let z : 0 + length ns ≡ length ns = omega arith in ap (λ y. with_places 0 ns ++ (n, y) ∷ []) z)

with_marks_of_snoc : (ns : List Name) (n : Name) → with_marks_of (ns ++ n ∷ []) ≡ with_marks_of ns ++ (n.bytes, n.at) ∷ []
with_marks_of_snoc [] n = refl
with_marks_of_snoc (m ∷ ms) n = ap (λ z. (m.bytes, m.at) ∷ z) (with_marks_of_snoc ms n)

pub mark_push : (es fs : List Numbered) (ns ms : List Name) (n : Name)
    → es ≡ first_numbers (with_marks_of ns) → fs ≡ with_number es (n.bytes, n.at) → ms ≡ ns ++ n ∷ [] → fs ≡ first_numbers (with_marks_of ms)
mark_push es fs ns ms n e f g = first_numbers_push es fs (with_marks_of ns) (with_marks_of ms) (n.bytes, n.at) e f (ap with_marks_of g ∙ with_marks_of_snoc ns n)

-- SLOTS
slots_append : (xs ys : List (Option (List ℕ))) (i : ℕ) → named_slots i (xs ++ ys) ≡ named_slots i xs ++ named_slots (i + length xs) ys
slots_append [] ys i = let e : i ≡ i + 0 = omega arith in ap (λ z. named_slots z ys) e
slots_append (None ∷ xs) ys i = let e : i + 1 + length xs ≡ i + suc (length xs) = omega arith in slots_append xs ys (i + 1) ∙ ap (λ z. named_slots (i + 1) xs ++ named_slots z ys) e
slots_append (Some n ∷ xs) ys i =
    let e : i + 1 + length xs ≡ i + suc (length xs) = omega arith in
    ap (λ z. (n, i) ∷ z) (slots_append xs ys (i + 1) ∙ ap (λ z. named_slots (i + 1) xs ++ named_slots z ys) e)

pub unnamed_push : (es : List Numbered) (ss ts : List (Option (List ℕ))) → es ≡ named_slots 0 ss → ts ≡ ss ++ None ∷ [] → es ≡ named_slots 0 ts
unnamed_push es ss ts e g = e ∙ sym (append-nil (named_slots 0 ss)) ∙ sym (ap (named_slots 0) g ∙ slots_append ss (None ∷ []) 0)

pub named_push : (es fs : List Numbered) (ss ts : List (Option (List ℕ))) (n : List ℕ) (at : ℕ)
    → es ≡ named_slots 0 ss → number_in (named_slots 0 ss) n ≡ None → at ≡ length ss → fs ≡ with_number es (n, at) → ts ≡ ss ++ Some n ∷ [] → fs ≡ named_slots 0 ts
named_push es fs ss ts n at e h a f g =
    let z : 0 + length ss ≡ length ss = omega arith in
    f ∙ ap (λ x. with_number x (n, at)) e ∙ ap (λ o. cond (is_some o) (named_slots 0 ss) (named_slots 0 ss ++ (n, at) ∷ [])) h
    ∙ ap (λ x. named_slots 0 ss ++ (n, x) ∷ []) (a ∙ sym z)
    ∙ sym (ap (named_slots 0) g ∙ slots_append ss (Some n ∷ []) 0)

pub named_long : (ss : List (Option (List ℕ))) (i : ℕ) → length (named_slots i ss) ≡ count_named ss
named_long [] i = refl
named_long (None ∷ ss) i = named_long ss (i + 1)
named_long (Some n ∷ ss) i = let e : suc (count_named ss) ≡ count_named ss + 1 = omega arith in ap suc (named_long ss (i + 1)) ∙ e

-- cut, the names are those of the slots that stay
pub named_cut : (es fs : List Numbered) (ss : List (Option (List ℕ))) (most dropped : ℕ)
    → es ≡ named_slots 0 ss → dropped ≡ count_named (drop most ss) → fs ≡ take (length es - dropped) es → fs ≡ named_slots 0 (take most ss)
named_cut es fs ss most dropped e d f =
    let head = named_slots 0 (take most ss) in
    let tail = named_slots (0 + length (take most ss)) (drop most ss) in
    let split : es ≡ head ++ tail = e ∙ ap (named_slots 0) (sym (take-append-drop most ss)) ∙ slots_append (take most ss) (drop most ss) 0 in
    let l = ap (λ z. length z) split ∙ length-append head tail in
    let t : dropped ≡ length tail = d ∙ sym (named_long (drop most ss) (0 + length (take most ss))) in
    let k : length es - dropped ≡ length head = omega (arith, l, t) in
    f ∙ ap (λ z. take z es) k ∙ ap (take (length head)) split ∙ take-append_seam head tail

-- no more names end than there are
pub named_few : (es : List Numbered) (ss : List (Option (List ℕ))) (most dropped : ℕ) → es ≡ named_slots 0 ss → dropped ≡ count_named (drop most ss) → dropped ≤ length es
named_few es ss most dropped e d =
    let tail = named_slots (0 + length (take most ss)) (drop most ss) in
    let split : es ≡ named_slots 0 (take most ss) ++ tail = e ∙ ap (named_slots 0) (sym (take-append-drop most ss)) ∙ slots_append (take most ss) (drop most ss) 0 in
    let l = ap (λ z. length z) split ∙ length-append (named_slots 0 (take most ss)) tail in
    let t : dropped ≡ length tail = d ∙ sym (named_long (drop most ss) (0 + length (take most ss))) in
    omega (arith, l, t)

-- the part of a list from a place on
take_whole : {A : Type 0} (n : ℕ) (xs : List A) → n ≡ length xs → take n xs ≡ xs
take_whole n xs e = ap (λ z. take z xs) e ∙ ap (take (length xs)) (sym (append-nil xs)) ∙ take-append_seam xs []

pub part_from : {A : Type 0} (xs ys : List A) (most : ℕ) → xs ≡ ys → take (length xs - most) (drop most xs) ≡ drop most ys
part_from xs ys most e = take_whole (length xs - most) (drop most xs) (sym (length-drop most xs)) ∙ ap (drop most) e
