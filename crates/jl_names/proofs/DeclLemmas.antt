-- Declarations by their names: one more, one less, and the first so many.
use Rattle.std.proofs.Common.{◌≡◌, ◌∙◌, refl, sym, ap, ℕ, zero, suc, ◌+◌, ◌-◌, ◌≤◌, ◌<◌, arith, Bool, true, false, cond, ◌&&◌, ◌==◌, List, [], ◌∷◌, ◌++◌, length, take, get_or, slice_get, Option, Some, None, is_some, length-append}
use Rattle.std.proofs.lemmas.List.{map-append, length-map, take-map, take_at}
use Rattle.jl_program.specs.Names.{same_text}
use Rattle.jl_model.specs.declared.ty.Decl.{Decl}
use Rattle.jl_names.specs.Numbers.{Numbered, number_in, with_number, first_numbers, with_places, names_of}
use Rattle.jl_names.proofs.NumberLemmas.{or_else, number_append, first_numbers_first, firsts_snoc, with_places_snoc, place_push}

pub text_self : (n : List ℕ) → same_text n n ≡ true
text_self [] = refl
text_self (x ∷ xs) = ap (λ b. b && same_text xs xs) (let e : (x == x) ≡ true = grind arith in e) ∙ text_self xs

names_snoc : (ds : List Decl) (d : Decl) → names_of (ds ++ d ∷ []) ≡ names_of ds ++ d.name ∷ []
names_snoc ds d = map-append (λ (c : Decl). c.name) ds (d ∷ [])

names_long : (ds : List Decl) → length (names_of ds) ≡ length ds
names_long ds = length-map ds (λ (d : Decl). d.name)

pub decl_push : (es fs : List Numbered) (ds cs : List Decl) (d : Decl) (at : ℕ)
    → es ≡ first_numbers (with_places 0 (names_of ds)) → at ≡ length ds → fs ≡ with_number es (d.name, at) → cs ≡ ds ++ d ∷ [] → fs ≡ first_numbers (with_places 0 (names_of cs))
decl_push es fs ds cs d at e a f g = place_push es fs (names_of ds) (names_of cs) d.name at e (a ∙ sym (names_long ds)) f (ap names_of g ∙ names_snoc ds d)

-- the number of a name is that of one of the names
number_low : (i : ℕ) (ns : List (List ℕ)) (n : List ℕ) (k : ℕ) → number_in (with_places i ns) n ≡ Some k → i ≤ k
number_low i [] n k h = absurd (let f : None ≡ Some k = h in cc)
number_low i (m ∷ ms) n k h = by (same_text n m) h (number_low (i + 1) ms n k)
  where
    by : (b : Bool) → cond b (Some i) (number_in (with_places (i + 1) ms) n) ≡ Some k → (number_in (with_places (i + 1) ms) n ≡ Some k → i + 1 ≤ k) → i ≤ k
    by true g r = let e : i ≡ k = (let f : Some i ≡ Some k = g in cc) in omega (arith, e)
    by false g r = let l : i + 1 ≤ k = r g in omega (arith, l)

number_high : (i : ℕ) (ns : List (List ℕ)) (n : List ℕ) (k : ℕ) → number_in (with_places i ns) n ≡ Some k → k < i + length ns
number_high i [] n k h = absurd (let f : None ≡ Some k = h in cc)
number_high i (m ∷ ms) n k h = by (same_text n m) h (number_high (i + 1) ms n k)
  where
    by : (b : Bool) → cond b (Some i) (number_in (with_places (i + 1) ms) n) ≡ Some k → (number_in (with_places (i + 1) ms) n ≡ Some k → k < i + 1 + length ms) → k < i + suc (length ms)
    by true g r = let e : i ≡ k = (let f : Some i ≡ Some k = g in cc) in omega (arith, e)
    by false g r = let l : k < i + 1 + length ms = r g in omega (arith, l)

-- the numbers of names behind one more
grown : (ns : List (List ℕ)) (n : List ℕ) → first_numbers (with_places 0 (ns ++ n ∷ [])) ≡ with_number (first_numbers (with_places 0 ns)) (n, length ns)
grown ns n = ap first_numbers (with_places_snoc ns n 0) ∙ firsts_snoc (with_places 0 ns) (n, 0 + length ns) [] ∙ let z : 0 + length ns ≡ length ns = omega arith in ap (λ y. with_number (first_numbers (with_places 0 ns)) (n, y)) z

-- without the last name, whose number is its own
pub popped_own : (es : List Numbered) (ns : List (List ℕ)) (n : List ℕ) → es ≡ first_numbers (with_places 0 (ns ++ n ∷ [])) → number_in es n ≡ Some (length ns) → take (length es - 1) es ≡ first_numbers (with_places 0 ns)
popped_own es ns n e h = by (number_in fs n) refl
  where
    fs : List Numbered
    fs = first_numbers (with_places 0 ns)

    whole : es ≡ with_number fs (n, length ns)
    whole = e ∙ grown ns n

    by : (o : Option ℕ) → number_in fs n ≡ o → take (length es - 1) es ≡ fs
    by None g =
        let w : es ≡ fs ++ (n, length ns) ∷ [] = whole ∙ ap (λ o. cond (is_some o) fs (fs ++ (n, length ns) ∷ [])) g in
        let l : length es ≡ length fs + 1 = ap (λ z. length z) w ∙ length-append fs ((n, length ns) ∷ []) in
        let k : length fs ≡ length es - 1 = omega (arith, l) in
        ap (take (length es - 1)) w ∙ take_at fs ((n, length ns) ∷ []) (length es - 1) k
    by (Some k) g =
        let w : es ≡ fs = whole ∙ ap (λ o. cond (is_some o) fs (fs ++ (n, length ns) ∷ [])) g in
        let f : Some (length ns) ≡ Some k = sym h ∙ ap (λ z. number_in z n) w ∙ g in
        let j : length ns ≡ k = cc in
        let b : k < 0 + length ns = number_high 0 ns n k (sym (first_numbers_first fs (with_places 0 ns) n refl) ∙ g) in
        absurd (omega (arith, j, b))

-- without the last name, which has the number of an earlier one
pub popped_again : (es : List Numbered) (ns : List (List ℕ)) (n : List ℕ) → es ≡ first_numbers (with_places 0 (ns ++ n ∷ [])) → (number_in es n ≡ Some (length ns) → ⊥) → es ≡ first_numbers (with_places 0 ns)
popped_again es ns n e h = by (number_in fs n) refl
  where
    fs : List Numbered
    fs = first_numbers (with_places 0 ns)

    whole : es ≡ with_number fs (n, length ns)
    whole = e ∙ grown ns n

    by : (o : Option ℕ) → number_in fs n ≡ o → es ≡ fs
    by (Some k) g = whole ∙ ap (λ o. cond (is_some o) fs (fs ++ (n, length ns) ∷ [])) g
    by None g = absurd (h (ap (λ z. number_in z n) whole ∙ ended (number_in fs n) g))
      where
        ended : (o : Option ℕ) → o ≡ None → number_in (cond (is_some o) fs (fs ++ (n, length ns) ∷ [])) n ≡ Some (length ns)
        ended (Some k) f = absurd (let z : Some k ≡ None = f in cc)
        ended None f = number_append fs ((n, length ns) ∷ []) n ∙ ap (λ o. or_else o (number_in ((n, length ns) ∷ []) n)) g ∙ ap (λ b. cond b (Some (length ns)) None) (text_self n)

-- a list up to its last declaration
last_of : (ds : List Decl) (n : ℕ) (d : Decl) → suc n ≡ length ds → d ≡ get_or ds n d → ds ≡ take n ds ++ d ∷ []
last_of [] n d h g = absurd (omega (arith, h))
last_of (x ∷ []) zero d h g = ap (λ z. z ∷ []) (sym g)
last_of (x ∷ y ∷ ys) zero d h g = absurd (omega (arith, h))
last_of (x ∷ xs) (suc n) d h g = ap (λ z. x ∷ z) (last_of xs n d (omega (arith, h)) g)

-- all declarations but the last, with the numbers of their names
module _ (es : List Numbered) (ds cs now : List Decl) (count : ℕ) (d : Decl) (m : List ℕ) (o : Option ℕ)
    (e : es ≡ first_numbers (with_places 0 (names_of ds))) (v : ds ≡ now) (l : count ≡ length ds) (z : count ≡ 0 → ⊥) (g : d ≡ get_or ds (count - 1) d)
    (i : m ≡ d.name) (f : o ≡ number_in (with_places 0 (names_of now)) m) (c : cs ≡ take (count - 1) ds) where
  abbrev before : List (List ℕ)
  before = names_of (take (count - 1) ds)

  counted : suc (count - 1) ≡ length ds
  counted = by count l z
    where
      by : (n : ℕ) → n ≡ length ds → (n ≡ 0 → ⊥) → suc (n - 1) ≡ length ds
      by zero h k = absurd (k refl)
      by (suc n) h k = omega (arith, h)

  split : names_of ds ≡ before ++ d.name ∷ []
  split = ap names_of (last_of ds (count - 1) d counted g) ∙ names_snoc (take (count - 1) ds) d

  place : length before ≡ count - 1
  place = let h : length ds ≡ length before + 1 = sym (names_long ds) ∙ ap (λ ns. length ns) split ∙ length-append before (d.name ∷ []) in let k = counted in omega (arith, h, k)

  whole : es ≡ first_numbers (with_places 0 (before ++ d.name ∷ []))
  whole = e ∙ ap (λ ns. first_numbers (with_places 0 ns)) split

  told : number_in es d.name ≡ o
  told = first_numbers_first es (with_places 0 (names_of ds)) d.name e ∙ ap (λ xs. number_in (with_places 0 (names_of xs)) d.name) v ∙ ap (number_in (with_places 0 (names_of now))) (sym i) ∙ sym f

  kept : first_numbers (with_places 0 before) ≡ first_numbers (with_places 0 (names_of cs))
  kept = ap (λ xs. first_numbers (with_places 0 (names_of xs))) (sym c)

  pub pop_own : (fs : List Numbered) (k : ℕ) → o ≡ Some k → k ≡ count - 1 → fs ≡ take (length es - 1) es → fs ≡ first_numbers (with_places 0 (names_of cs))
  pop_own fs k s q r = r ∙ popped_own es before d.name whole (told ∙ s ∙ ap Some (q ∙ sym place)) ∙ kept

  pub pop_again : (k : ℕ) → o ≡ Some k → (k ≡ count - 1 → ⊥) → es ≡ first_numbers (with_places 0 (names_of cs))
  pop_again k s q = popped_again es before d.name whole (λ h. q (let j : Some k ≡ Some (length before) = sym s ∙ sym told ∙ h in let n : k ≡ length before = cc in n ∙ place)) ∙ kept

  pub pop_none : o ≡ None → es ≡ first_numbers (with_places 0 (names_of cs))
  pop_none s = popped_again es before d.name whole (λ h. let j : None ≡ Some (length before) = sym s ∙ sym told ∙ h in cc) ∙ kept

-- the first so many names
find_within : (i c : ℕ) (ns : List (List ℕ)) (n : List ℕ) (k : ℕ) → number_in (with_places i ns) n ≡ Some k → k < i + c → number_in (with_places i (take c ns)) n ≡ Some k
find_within i c [] n k h l = absurd (let f : None ≡ Some k = h in cc)
find_within i zero (m ∷ ms) n k h l = let e : i ≤ k = number_low i (m ∷ ms) n k h in absurd (omega (arith, e, l))
find_within i (suc c) (m ∷ ms) n k h l = by (same_text n m) h (find_within (i + 1) c ms n k)
  where
    by : (b : Bool) → cond b (Some i) (number_in (with_places (i + 1) ms) n) ≡ Some k
        → (number_in (with_places (i + 1) ms) n ≡ Some k → k < i + 1 + c → number_in (with_places (i + 1) (take c ms)) n ≡ Some k)
        → cond b (Some i) (number_in (with_places (i + 1) (take c ms)) n) ≡ Some k
    by true g r = g
    by false g r = r g (omega (arith, l))

find_past : (i c : ℕ) (ns : List (List ℕ)) (n : List ℕ) (k : ℕ) → number_in (with_places i ns) n ≡ Some k → i + c ≤ k → number_in (with_places i (take c ns)) n ≡ None
find_past i zero ns n k h l = refl
find_past i (suc c) [] n k h l = refl
find_past i (suc c) (m ∷ ms) n k h l = by (same_text n m) h (find_past (i + 1) c ms n k)
  where
    by : (b : Bool) → cond b (Some i) (number_in (with_places (i + 1) ms) n) ≡ Some k
        → (number_in (with_places (i + 1) ms) n ≡ Some k → i + 1 + c ≤ k → number_in (with_places (i + 1) (take c ms)) n ≡ None)
        → cond b (Some i) (number_in (with_places (i + 1) (take c ms)) n) ≡ None
    by true g r = let e : i ≡ k = (let f : Some i ≡ Some k = g in cc) in absurd (omega (arith, e, l))
    by false g r = r g (omega (arith, l))

find_none : (i c : ℕ) (ns : List (List ℕ)) (n : List ℕ) → number_in (with_places i ns) n ≡ None → number_in (with_places i (take c ns)) n ≡ None
find_none i zero ns n h = refl
find_none i (suc c) [] n h = refl
find_none i (suc c) (m ∷ ms) n h = by (same_text n m) h (find_none (i + 1) c ms n)
  where
    by : (b : Bool) → cond b (Some i) (number_in (with_places (i + 1) ms) n) ≡ None
        → (number_in (with_places (i + 1) ms) n ≡ None → number_in (with_places (i + 1) (take c ms)) n ≡ None)
        → cond b (Some i) (number_in (with_places (i + 1) (take c ms)) n) ≡ None
    by true g r = absurd (let f : Some i ≡ None = g in cc)
    by false g r = r g

first_names : (c : ℕ) (ds : List Decl) → take c (names_of ds) ≡ names_of (take c ds)
first_names c ds = take-map (λ (d : Decl). d.name) c ds

first_number : (c : ℕ) (ds : List Decl) (n : List ℕ) → number_in (with_places 0 (take c (names_of ds))) n ≡ number_in (with_places 0 (names_of (take c ds))) n
first_number c ds n = ap (λ z. number_in (with_places 0 z) n) (first_names c ds)

pub found_first : (c : ℕ) (ds : List Decl) (n : List ℕ) (k : ℕ) → number_in (with_places 0 (names_of ds)) n ≡ Some k → k < c → number_in (with_places 0 (names_of (take c ds))) n ≡ Some k
found_first c ds n k h l = sym (first_number c ds n) ∙ find_within 0 c (names_of ds) n k h (omega (arith, l))

pub found_past : (c : ℕ) (ds : List Decl) (n : List ℕ) (k : ℕ) → number_in (with_places 0 (names_of ds)) n ≡ Some k → c ≤ k → number_in (with_places 0 (names_of (take c ds))) n ≡ None
found_past c ds n k h l = sym (first_number c ds n) ∙ find_past 0 c (names_of ds) n k h (omega (arith, l))

pub found_none : (c : ℕ) (ds : List Decl) (n : List ℕ) → number_in (with_places 0 (names_of ds)) n ≡ None → number_in (with_places 0 (names_of (take c ds))) n ≡ None
found_none c ds n h = sym (first_number c ds n) ∙ find_none 0 c (names_of ds) n h

-- the declaration of a number among the first so many
pub get_within : {A : Type 0} (c n : ℕ) (xs : List A) → n < c → slice_get (take c xs) n ≡ slice_get xs n
get_within zero n xs l = absurd (omega (arith, l))
get_within (suc c) n [] l = refl
get_within (suc c) zero (x ∷ xs) l = refl
get_within (suc c) (suc n) (x ∷ xs) l = get_within c n xs (omega (arith, l))

pub get_past : {A : Type 0} (c n : ℕ) (xs : List A) → c ≤ n → slice_get (take c xs) n ≡ None
get_past zero n xs l = refl
get_past (suc c) n [] l = refl
get_past (suc c) zero (x ∷ xs) l = absurd (omega (arith, l))
get_past (suc c) (suc n) (x ∷ xs) l = get_past c n xs (omega (arith, l))
