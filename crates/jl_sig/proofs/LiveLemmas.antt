-- Rows without dead variables: those in which some variables do not stand.
use Rattle.std.proofs.Common.{◌≡◌, ◌∙◌, sym, ap, refl, subst, ℕ, suc, ◌+◌, ◌≤◌, arith, Bool, true, false, ◌&&◌, ◌||◌, not, cond, nat_eq, List, [], ◌∷◌, ◌++◌, map, length, length-append}
use Rattle.std.specs.List.{flat_map, list_any}
use Rattle.std.proofs.lemmas.List.Folds.{list_any-append}
use Rattle.jl_model.specs.declared.ty.Ty.{Ty}
use Rattle.jl_model.specs.declared.ty.Ty.TheViews as V
use Rattle.jl_model.specs.declared.ty.Ty.TheVariants as W
use Rattle.jl_model.specs.Kinds.{Places, places, plus_all, nowhere}
use Rattle.jl_model.specs.Rows.{choices, forms, vars_in}
use Rattle.jl_model.specs.Usable.{stands_in}
use Rattle.jl_model.proofs.TypeInduction.{Each, by_cases}
use Rattle.jl_model.proofs.FormLemmas.{vars-any, vars-tuple, vars-union}
use Rattle.jl_sig.proofs.KindLemmas.{places-union, places-tuple, places-nominal, places-var}
use Rattle.jl_sig.proofs.UsableLemmas.{stands-any, stands-union, stands-tuple, stands-nominal, stands-var}
use Rattle.jl_types.proofs.FormEquations.{forms-any, forms-union, forms-tuple, forms-nominal, forms-var}

-- a variable that stands in a type has a place in it
abbrev Had : ℕ → Ty → Type 0
Had v t = stands_in v t ≡ true → 1 ≤ (places v t).covariant + (places v t).invariant

own_place : (b : Bool) → b ≡ true → 1 ≤ (cond b (record { covariant = 1; invariant = 0 }) nowhere).covariant + (cond b (record { covariant = 1; invariant = 0 }) nowhere).invariant
own_place true e = omega arith
own_place false e = absurd (let f : false ≡ true = e in cc)

first_place : (v : ℕ) (t : Ty) (ts : List Ty) (b : Bool) → stands_in v t ≡ b → Had v t → list_any (stands_in v) (t ∷ ts) ≡ true
    → (list_any (stands_in v) ts ≡ true → 1 ≤ (plus_all (map (places v) ts)).covariant + (plus_all (map (places v) ts)).invariant)
    → 1 ≤ (plus_all (map (places v) (t ∷ ts))).covariant + (plus_all (map (places v) (t ∷ ts))).invariant
first_place v t ts true g p h r = let i = p g in omega (arith, i)
first_place v t ts false g p h r = let i = r (sym (ap (λ z. z || list_any (stands_in v) ts) g) ∙ h) in omega (arith, i)

some_place : (v : ℕ) (ts : List Ty) → Each (Had v) ts → list_any (stands_in v) ts ≡ true → 1 ≤ (plus_all (map (places v) ts)).covariant + (plus_all (map (places v) ts)).invariant
some_place v [] e h = absurd (let f : false ≡ true = h in cc)
some_place v (t ∷ ts) e h = first_place v t ts (stands_in v t) refl e.0 h (some_place v ts e.1)

pub has_place : (v : ℕ) (t : Ty) → stands_in v t ≡ true → 1 ≤ (places v t).covariant + (places v t).invariant
has_place v = by_cases (Had v) (record {
  any = λ h. absurd (let f : false ≡ true = sym (stands-any v) ∙ h in cc);
  union = λ ts e h. let p = places-union v ts in let g = some_place v ts e (sym (stands-union v ts) ∙ h) in subst (λ (z : Places). 1 ≤ z.covariant + z.invariant) (sym p) g;
  tuple = λ ts e h. let p = places-tuple v ts in let g = some_place v ts e (sym (stands-tuple v ts) ∙ h) in subst (λ (z : Places). 1 ≤ z.covariant + z.invariant) (sym p) g;
  nominal = λ k ts e h. let p = places-nominal v k ts in let g = some_place v ts e (sym (stands-nominal v k ts) ∙ h) in subst (λ (z : Places). 1 ≤ z.covariant + z.invariant) (sym p) (omega (arith, g));
  var = λ w h. subst (λ (z : Places). 1 ≤ z.covariant + z.invariant) (sym (places-var v w)) (own_place (nat_eq v w) (sym (stands-var v w) ∙ h));
})

-- those that pass a test
abbrev pub sift : {A : Type 0} → (A → Bool) → List A → List A
sift p [] = []
sift p (x ∷ xs) = cond (p x) (x ∷ sift p xs) (sift p xs)

pub sift-append : {A : Type 0} (p : A → Bool) (xs ys : List A) → sift p (xs ++ ys) ≡ sift p xs ++ sift p ys
sift-append p [] ys = refl
sift-append p (x ∷ xs) ys = by_test (p x) (sift-append p xs ys)
  where
    by_test : (b : Bool) → sift p (xs ++ ys) ≡ sift p xs ++ sift p ys → cond b (x ∷ sift p (xs ++ ys)) (sift p (xs ++ ys)) ≡ cond b (x ∷ sift p xs) (sift p xs) ++ sift p ys
    by_test true h = ap (λ z. x ∷ z) h
    by_test false h = h

pub sift-map : {A B : Type 0} (p : B → Bool) (q : A → Bool) (f : A → B) → ((x : A) → p (f x) ≡ q x) → (xs : List A) → sift p (map f xs) ≡ map f (sift q xs)
sift-map p q f h [] = refl
sift-map p q f h (x ∷ xs) = by_test (p (f x)) (q x) (h x) (sift-map p q f h xs)
  where
    by_test : (b c : Bool) → b ≡ c → sift p (map f xs) ≡ map f (sift q xs) → cond b (f x ∷ sift p (map f xs)) (sift p (map f xs)) ≡ map f (cond c (x ∷ sift q xs) (sift q xs))
    by_test true true e g = ap (λ z. f x ∷ z) g
    by_test false false e g = g
    by_test true false e g = absurd (let w : true ≡ false = e in cc)
    by_test false true e g = absurd (let w : false ≡ true = e in cc)

sift-none : {A : Type 0} (p : A → Bool) → ((x : A) → p x ≡ false) → (xs : List A) → sift p xs ≡ []
sift-none p h [] = refl
sift-none p h (x ∷ xs) = rw (h x) (sift-none p h xs)

-- what is dropped counts nothing
pub sift-flat : {A B : Type 0} (p : A → Bool) (f : A → List B) → ((x : A) → p x ≡ false → f x ≡ []) → (xs : List A) → flat_map f (sift p xs) ≡ flat_map f xs
sift-flat p f h [] = refl
sift-flat p f h (x ∷ xs) = by_test (p x) refl (sift-flat p f h xs)
  where
    by_test : (b : Bool) → p x ≡ b → flat_map f (sift p xs) ≡ flat_map f xs → flat_map f (cond b (x ∷ sift p xs) (sift p xs)) ≡ f x ++ flat_map f xs
    by_test true e g = ap (λ z. f x ++ z) g
    by_test false e g = g ∙ ap (λ z. z ++ flat_map f xs) (sym (h x e))

-- each that is left counts
longer : {B : Type 0} (us vs : List B) (m : ℕ) → 1 ≤ length us → m ≤ length vs → suc m ≤ length (us ++ vs)
longer us vs m a b = let e = length-append us vs in omega (arith, e)

sift_first : {A B : Type 0} (p : A → Bool) (f : A → List B) (x : A) (xs : List A) (b : Bool) → p x ≡ b → (p x ≡ true → 1 ≤ length (f x)) → length (sift p xs) ≤ length (flat_map f (sift p xs))
    → length (cond b (x ∷ sift p xs) (sift p xs)) ≤ length (flat_map f (cond b (x ∷ sift p xs) (sift p xs)))
sift_first p f x xs true e h g = longer (f x) (flat_map f (sift p xs)) (length (sift p xs)) (h e) g
sift_first p f x xs false e h g = g

pub sift_long : {A B : Type 0} (p : A → Bool) (f : A → List B) → ((x : A) → p x ≡ true → 1 ≤ length (f x)) → (xs : List A) → length (sift p xs) ≤ length (flat_map f (sift p xs))
sift_long p f h [] = omega arith
sift_long p f h (x ∷ xs) = sift_first p f x xs (p x) refl (h x) (sift_long p f h xs)

-- DEAD VARIABLES, by a name for each variable
module _ (dead : ℕ → Bool) (name : ℕ → ℕ) where
  abbrev pub live : Ty → Bool
  live t = not (list_any dead (map name (vars_in t)))

  abbrev pub live_row : List Ty → Bool
  live_row us = not (list_any dead (map name (flat_map vars_in us)))

  not_or : (a b : Bool) → not (a || b) ≡ (not a && not b)
  not_or true b = refl
  not_or false b = refl

  map_append : (ms ns : List ℕ) → map name (ms ++ ns) ≡ map name ms ++ map name ns
  map_append [] ns = refl
  map_append (m ∷ ms) ns = ap (λ z. name m ∷ z) (map_append ms ns)

  pub live-cons : (u : Ty) (us : List Ty) → live_row (u ∷ us) ≡ (live u && live_row us)
  live-cons u us =
      ap (λ z. not (list_any dead z)) (map_append (vars_in u) (flat_map vars_in us)) ∙ ap not (list_any-append dead (map name (vars_in u)) (map name (flat_map vars_in us)))
      ∙ not_or (list_any dead (map name (vars_in u))) (list_any dead (map name (flat_map vars_in us)))

  pub live-tuple : (us : List Ty) → live (V.Tuple us) ≡ live_row us
  live-tuple us = ap (λ z. not (list_any dead (map name z))) (vars-tuple us)

  pub live-union : (us : List Ty) → live (V.Union us) ≡ live_row us
  live-union us = ap (λ z. not (list_any dead (map name z))) (vars-union us)

  -- rows
  sift-cons : (t : Ty) (rows : List (List Ty)) (b : Bool) → live t ≡ b → sift live_row (map (λ us. t ∷ us) rows) ≡ cond b (map (λ us. t ∷ us) (sift live_row rows)) []
  sift-cons t rows true e = sift-map live_row live_row (λ us. t ∷ us) (λ us. live-cons t us ∙ ap (λ z. z && live_row us) e) rows
  sift-cons t rows false e = gone rows
    where
      gone : (rs : List (List Ty)) → sift live_row (map (λ us. t ∷ us) rs) ≡ []
      gone [] = refl
      gone (r ∷ rs) = rw (live-cons t r ∙ ap (λ z. z && live_row r) e) (gone rs)

  sift-rows : (ts : List Ty) (rows : List (List Ty)) → sift live_row (flat_map (λ t. map (λ us. t ∷ us) rows) ts) ≡ flat_map (λ t. map (λ us. t ∷ us) (sift live_row rows)) (sift live ts)
  sift-rows [] rows = refl
  sift-rows (t ∷ ts) rows =
      sift-append live_row (map (λ us. t ∷ us) rows) (flat_map (λ t. map (λ us. t ∷ us) rows) ts)
      ∙ ap (λ z. z ++ sift live_row (flat_map (λ t. map (λ us. t ∷ us) rows) ts)) (sift-cons t rows (live t) refl)
      ∙ ap (λ z. cond (live t) (map (λ us. t ∷ us) (sift live_row rows)) [] ++ z) (sift-rows ts rows) ∙ join (live t)
    where
      g : Ty → List (List Ty)
      g = λ t. map (λ us. t ∷ us) (sift live_row rows)

      join : (b : Bool) → (cond b (map (λ us. t ∷ us) (sift live_row rows)) [] ++ flat_map (λ t. map (λ us. t ∷ us) (sift live_row rows)) (sift live ts)) ≡ flat_map (λ t. map (λ us. t ∷ us) (sift live_row rows)) (cond b (t ∷ sift live ts) (sift live ts))
      join true = refl
      join false = refl

  pub sift-choices : (tss : List (List Ty)) → sift live_row (choices tss) ≡ choices (map (sift live) tss)
  sift-choices [] = refl
  sift-choices (ts ∷ tss) = sift-rows ts (choices tss) ∙ ap (λ z. flat_map (λ t. map (λ us. t ∷ us) z) (sift live ts)) (sift-choices tss)

  -- FORMS
  -- a dead variable has no place below a nominal type
  abbrev pub Clear : Ty → Type 0
  Clear t = (w : ℕ) → dead (name w) ≡ true → (places w t).invariant ≡ 0

  clear_all : (ts : List Ty) → ((w : ℕ) → dead (name w) ≡ true → (plus_all (map (places w) ts)).invariant ≡ 0) → Each Clear ts
  clear_all [] h = tt
  clear_all (t ∷ ts) h = ((λ w d. let e = h w d in omega arith), clear_all ts (λ w d. let e = h w d in omega arith))

  module _ (at : ℕ → List Ty) where
    abbrev thin : ℕ → List Ty
    thin v = sift live (at v)

    sift_flat : (ts : List Ty) → Each (λ t. Clear t → sift live (forms at t) ≡ forms thin t) ts → Each Clear ts → sift live (flat_map (forms at) ts) ≡ flat_map (forms thin) ts
    sift_flat [] e h = refl
    sift_flat (t ∷ ts) e h = sift-append live (forms at t) (flat_map (forms at) ts) ∙ ap (λ z. z ++ sift live (flat_map (forms at) ts)) (e.0 h.0) ∙ ap (λ z. forms thin t ++ z) (sift_flat ts e.1 h.1)

    sift_each : (ts : List Ty) → Each (λ t. Clear t → sift live (forms at t) ≡ forms thin t) ts → Each Clear ts → map (sift live) (map (forms at) ts) ≡ map (forms thin) ts
    sift_each [] e h = refl
    sift_each (t ∷ ts) e h = ap (λ z. z ∷ map (sift live) (map (forms at) ts)) (e.0 h.0) ∙ ap (λ z. forms thin t ∷ z) (sift_each ts e.1 h.1)

    sift_choices : (ts : List Ty) → Each (λ t. Clear t → sift live (forms at t) ≡ forms thin t) ts → Each Clear ts → sift live_row (choices (map (forms at) ts)) ≡ choices (map (forms thin) ts)
    sift_choices ts e h = sift-choices (map (forms at) ts) ∙ ap choices (sift_each ts e h)

    or_right : (a b : Bool) → b ≡ true → (a || b) ≡ true
    or_right true b g = refl
    or_right false b g = g

    -- a dead variable that stands in a list
    abbrev Found : List ℕ → Type 0
    Found ns = (w : ℕ) × (list_any (nat_eq w) ns ≡ true) × (dead (name w) ≡ true)

    dead_first : (n : ℕ) (ns : List ℕ) (b : Bool) → dead (name n) ≡ b → list_any dead (map name (n ∷ ns)) ≡ true → (list_any dead (map name ns) ≡ true → Found ns) → Found (n ∷ ns)
    dead_first n ns true e h r = let s : nat_eq n n ≡ true = grind arith in (n, ap (λ z. z || list_any (nat_eq n) ns) s, e)
    dead_first n ns false e h r =
        let f = r (sym (ap (λ z. z || list_any dead (map name ns)) e) ∙ h) in
        (f.0, or_right (nat_eq f.0 n) (list_any (nat_eq f.0) ns) f.1, f.2)

    some_dead : (ns : List ℕ) → list_any dead (map name ns) ≡ true → Found ns
    some_dead [] h = absurd (let f : false ≡ true = h in cc)
    some_dead (n ∷ ns) h = dead_first n ns (dead (name n)) refl h (some_dead ns)

    not_false_true : (b : Bool) → (b ≡ true → ⊥) → not b ≡ true
    not_false_true true h = absurd (h refl)
    not_false_true false h = refl

    nominal_live : (k : ℕ) (ts : List Ty) → Clear (V.Nominal k ts) → live (V.Nominal k ts) ≡ true
    nominal_live k ts h =
        not_false_true (list_any dead (map name (vars_in (V.Nominal k ts)))) (λ s.
        let r = some_dead (vars_in (V.Nominal k ts)) s in
        let p = has_place r.0 (V.Nominal k ts) r.1 in
        let z = h r.0 r.2 in
        let q = places-nominal r.0 k ts in
        let c : (places r.0 (V.Nominal k ts)).covariant ≡ 0 = ap (λ y. y.covariant) q in
        omega (arith, p, z, c))

    pub sifted : (t : Ty) → Clear t → sift live (forms at t) ≡ forms thin t
    sifted = by_cases (λ t. Clear t → sift live (forms at t) ≡ forms thin t) (record {
      any = λ h.
          let l : live W.Any ≡ true = ap (λ z. not (list_any dead (map name z))) vars-any in
          ap (sift live) (forms-any at) ∙ ap (λ b. cond b (W.Any ∷ []) []) l ∙ sym (forms-any thin);
      union = λ ts e h.
          let c = clear_all ts (λ w d. sym (ap (λ y. y.invariant) (places-union w ts)) ∙ h w d) in
          ap (sift live) (forms-union at ts) ∙ sift_flat ts e c ∙ sym (forms-union thin ts);
      tuple = λ ts e h.
          let c = clear_all ts (λ w d. sym (ap (λ y. y.invariant) (places-tuple w ts)) ∙ h w d) in
          ap (sift live) (forms-tuple at ts) ∙ sift-map live live_row (λ us. V.Tuple us) live-tuple (choices (map (forms at) ts))
          ∙ ap (map (λ us. V.Tuple us)) (sift_choices ts e c) ∙ sym (forms-tuple thin ts);
      nominal = λ k ts e h.
          ap (sift live) (forms-nominal at k ts) ∙ ap (λ b. cond b (V.Nominal k ts ∷ []) []) (nominal_live k ts h) ∙ sym (forms-nominal thin k ts);
      var = λ v h. ap (sift live) (forms-var at v) ∙ sym (forms-var thin v);
    })

    each_sifted : (ts : List Ty) → Each (λ t. Clear t → sift live (forms at t) ≡ forms thin t) ts
    each_sifted [] = tt
    each_sifted (t ∷ ts) = (sifted t, each_sifted ts)

    -- the rows without dead variables are those where the places have none
    pub live_rows : (ts : List Ty) → ((w : ℕ) → dead (name w) ≡ true → (plus_all (map (places w) ts)).invariant ≡ 0) → sift live_row (choices (map (forms at) ts)) ≡ choices (map (forms thin) ts)
    live_rows ts h = sift_choices ts (each_sifted ts) (clear_all ts h)
