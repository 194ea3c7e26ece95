-- What the code that prepares a signature needs.
use Rattle.std.proofs.Common.{◌≡◌, ◌∙◌, sym, ap, subst, refl, ℕ, zero, suc, ◌+◌, ◌<◌, ◌≤◌, arith, Bool, true, false, IsTrue, ◌↔◌, List, [], ◌∷◌, ◌++◌, map, length, get_or, ◌⊎◌, inl, inr}
use Rattle.std.specs.List.{flat_map, list_all, Contains}
use Rattle.std.proofs.lemmas.List.{length-map}
use Rattle.std.proofs.lemmas.List.Elements.{Contains-append_left, Contains-append_right}
use Rattle.jl_model.specs.declared.ty.Ty.{Ty}
use Rattle.jl_model.specs.declared.ty.Ty.TheViews.{outs-Union}
use Rattle.jl_model.specs.declared.ty.Ty.TheViews as V
use Rattle.jl_model.specs.declared.ty.Ty.TheVariants as W
use Rattle.jl_model.specs.declared.ty.Bound.{Bound}
use Rattle.jl_model.specs.declared.ty.Decl.{Decl}
use Rattle.jl_model.specs.declared.ty.Written.{Written}
use Rattle.jl_model.specs.Ancestors.{table_of}
use Rattle.jl_model.specs.Counts.{nodes, total}
use Rattle.jl_model.specs.Rows.{alts, free, high, low, width}
use Rattle.jl_model.specs.Signature.{Both, both_end, both_more}
use Rattle.jl_model.specs.Valid.{is_known}
use Rattle.jl_model.specs.Refusals.{Declared, bound_types, Given, given_in, given_from}
use Rattle.jl_model.specs.SigRefusals.{types_in, arguments_in, are_bounds, bottom_form, is_bottom, is_component, TypeLimit, ManyRows, BoundsCrossed}
use Rattle.jl_model.specs.AllRows.{Listed}
use Rattle.jl_model.proofs.TypeInduction.{Each, by_cases}
use Rattle.jl_model.proofs.FormLemmas.{alts-any}
use Rattle.jl_model.proofs.CountLemmas.{nodes_all}
use Rattle.jl_model.proofs.PutLemmas.{and_l, and_r, both_true}
use Rattle.jl_model.proofs.AncestorLemmas.{true_each}
use Rattle.jl_model.proofs.KnownLemmas.{Known, union_known, tuple_known, nominal_known}
use Rattle.jl_types.proofs.ExpandLemmas.{nodes-positive}
use Rattle.jl_sig.specs.Parts.{HasWide}
use Rattle.jl_sig.specs.Forms.{IsBoundForm, AreFormed, AreKnown, lows}
use Rattle.jl_sig.specs.Fit.{IsFit, AllFit}
use Rattle.jl_sig.specs.declared.sig.Prepared.{Prepared}
use Rattle.jl_sig.specs.Prepared.{HasOwnVariables, IsExpandable, IsBuildable, AreAllRows, IsWellPlaced, IsSigOf, IsPrepared}
use Rattle.jl_types.proofs.GivenLemmas.{AllGiven, given-any, given-var, given-union, given-tuple, given-nominal, given_both, given_none, each_given}
use Rattle.jl_sig.proofs.BoundLemmas.{placed_bounds, placed_parts, bounds_components}
use Rattle.jl_sig.proofs.LimitLemmas.{few_alternatives, within, arguments_within, argument_form, not_too_large, no_large}
use Rattle.jl_sig.proofs.BuildLemmas.{not_many}

each_of : (P Q : Ty → Type 0) (ts : List Ty) → Each (λ t. P t → Q t) ts → Each P ts → Each Q ts
each_of P Q [] e f = tt
each_of P Q (t ∷ ts) e f = (e.0 f.0, each_of P Q ts e.1 f.1)

-- the arguments of known types are known
known_own : (ds : List Decl) (k j : ℕ) (ts : List Ty) → Each (Known (length ds)) ts → AllGiven (λ a. is_known (length ds) a.ty ≡ true) (given_from k j ts)
known_own ds k j [] e a c = absurd (omega (arith, c.1))
known_own ds k j (t ∷ ts) e a (zero, l, q) = subst (λ (z : Given). is_known (length ds) z.ty ≡ true) q e.0
known_own ds k j (t ∷ ts) e a (suc i, l, q) = known_own ds k (j + 1) ts e.1 a (i, omega arith, q)

abbrev G : List Decl → Given → Type 0
G ds a = is_known (length ds) a.ty ≡ true

given_known : (ds : List Decl) (t : Ty) → Known (length ds) t → AllGiven (λ a. is_known (length ds) a.ty ≡ true) (given_in t)
given_known ds =
    let m = length ds in
    by_cases (λ t. Known m t → AllGiven (G ds) (given_in t)) (record {
      any = λ h. subst (AllGiven (G ds)) (sym given-any) (given_none (G ds));
      union = λ ts e h. subst (AllGiven (G ds)) (sym (given-union ts)) (each_given (G ds) ts (each_of (Known m) (λ t. AllGiven (G ds) (given_in t)) ts e (union_known m ts h)));
      tuple = λ ts e h. subst (AllGiven (G ds)) (sym (given-tuple ts)) (each_given (G ds) ts (each_of (Known m) (λ t. AllGiven (G ds) (given_in t)) ts e (tuple_known m ts h)));
      nominal = λ k ts e h.
          let r = nominal_known m k ts h in
          subst (AllGiven (G ds)) (sym (given-nominal k ts))
          (given_both (G ds) (given_from k 0 ts) (flat_map given_in ts) (known_own ds k 0 ts r.1) (each_given (G ds) ts (each_of (Known m) (λ t. AllGiven (G ds) (given_in t)) ts e r.1)));
      var = λ v h. subst (AllGiven (G ds)) (sym (given-var v)) (given_none (G ds));
    })

all_given_known : (ds : List Decl) (ts : List Ty) → Each (Known (length ds)) ts → Each (λ t. AllGiven (G ds) (given_in t)) ts
all_given_known ds [] e = tt
all_given_known ds (t ∷ ts) e = (given_known ds t e.0, all_given_known ds ts e.1)

listed_known : (ds : List Decl) (gs : List Given) → AllGiven (G ds) gs → AreKnown ds gs
listed_known ds [] h = refl
listed_known ds (g ∷ gs) h =
    both_true (is_known (length ds) g.ty) (list_all (λ (a : Given). is_known (length ds) a.ty) gs) (h g (zero, omega arith, refl)) (listed_known ds gs (λ a c. h a (suc c.0, omega (arith, c.1), c.2)))

pub arguments_known : (ds : List Decl) (ts : List Ty) → list_all (is_known (length ds)) ts ≡ true → AreKnown ds (flat_map given_in ts)
arguments_known ds ts h = listed_known ds (flat_map given_in ts) (each_given (G ds) ts (all_given_known ds ts (true_each (is_known (length ds)) ts h)))

-- the upper bound of a variable
high_at : (bs : List Bound) (v : ℕ) → v < length bs → Contains (bound_types bs) (get_or bs v free).high
high_at [] v l = absurd (omega arith)
high_at (b ∷ bs) zero l = (suc zero, omega arith, refl)
high_at (b ∷ bs) (suc v) l = let c = high_at bs v (omega arith) in (suc (suc c.0), omega (arith, c.1), c.2)

high_past : (bs : List Bound) (v : ℕ) → length bs ≤ v → (get_or bs v free).high ≡ W.Any
high_past [] zero l = refl
high_past [] (suc v) l = refl
high_past (b ∷ bs) zero l = absurd (omega arith)
high_past (b ∷ bs) (suc v) l = high_past bs v (omega arith)

bottom_past : (bs : List Bound) (v : ℕ) → length bs ≤ v → is_bottom (get_or bs v free).low ≡ true
bottom_past [] zero l = ap bottom_form (outs-Union [])
bottom_past [] (suc v) l = ap bottom_form (outs-Union [])
bottom_past (b ∷ bs) zero l = absurd (omega arith)
bottom_past (b ∷ bs) (suc v) l = bottom_past bs v (omega arith)

-- lower bounds
lows_long : (bs cs : List Bound) → lows bs ≡ lows cs → length bs ≡ length cs
lows_long bs cs e = sym (length-map bs (λ (b : Bound). b.low)) ∙ ap length e ∙ length-map cs (λ (b : Bound). b.low)

low_is : (bs : List Bound) (v : ℕ) → (get_or bs v free).low ≡ get_or (lows bs) v (V.Union [])
low_is [] zero = refl
low_is [] (suc v) = refl
low_is (b ∷ bs) zero = refl
low_is (b ∷ bs) (suc v) = low_is bs v

low_same : (bs cs : List Bound) (v : ℕ) → lows bs ≡ lows cs → (get_or bs v free).low ≡ (get_or cs v free).low
low_same bs cs v e = low_is bs v ∙ ap (λ z. get_or z v (V.Union [])) e ∙ sym (low_is cs v)

pub lows_formed : (R : Ty → Ty → Type 0) (bs cs : List Bound) → Both R (bound_types bs) (bound_types cs) → Both R (lows bs) (lows cs)
lows_formed R [] [] h = both_end
lows_formed R [] (c ∷ cs) h = elim h [ ]
lows_formed R (b ∷ bs) [] h = elim h [ ]
lows_formed R (b ∷ bs) (c ∷ cs) (both_more t u vs ws p (both_more x y xs ys q r)) = both_more b.low c.low (lows bs) (lows cs) p (lows_formed R bs cs r)

fit_at : (ds : List Decl) (ts : List Ty) → AllFit ds ts → (t : Ty) → Contains ts t → IsFit ds t
fit_at ds [] f t c = absurd (omega (arith, c.1))
fit_at ds (x ∷ xs) f t (zero, l, e) = subst (IsFit ds) e f.0
fit_at ds (x ∷ xs) f t (suc i, l, e) = fit_at ds xs f.1 t (i, omega arith, e)

true_at : (q : Ty → Bool) (ts : List Ty) (x : Ty) → list_all q ts ≡ true → Contains ts x → q x ≡ true
true_at q [] x g d = absurd (omega (arith, d.1))
true_at q (y ∷ ys) x g (zero, o, e) = ap q (sym e) ∙ and_l (q y) (list_all q ys) g
true_at q (y ∷ ys) x g (suc i, o, e) = true_at q ys x (and_r (q y) (list_all q ys) g) (i, omega arith, e)

lt_cases : (v m : ℕ) → (v < m) ⊎ (m ≤ v)
lt_cases zero zero = inr (omega arith)
lt_cases zero (suc m) = inl (omega arith)
lt_cases (suc v) zero = inr (omega arith)
lt_cases (suc v) (suc m) = elim (lt_cases v m) [ inl a ↦ inl (omega arith) | inr b ↦ inr (omega arith) ]

bounds_nodes : (bs : List Bound) → length bs ≤ nodes_all (bound_types bs)
bounds_nodes [] = omega arith
bounds_nodes (b ∷ bs) = let h = bounds_nodes bs in let p = nodes-positive b.low in omega (arith, h, p)

total_append : (ts us : List Ty) → nodes_all ts ≤ nodes_all (ts ++ us)
total_append [] us = omega arith
total_append (t ∷ ts) us = let h = total_append ts us in omega (arith, h)

flat_contains : (ts : List Ty) (t : Ty) (a : Given) → Contains ts t → Contains (given_in t) a → Contains (flat_map given_in ts) a
flat_contains [] t a c d = absurd (omega (arith, c.1))
flat_contains (x ∷ xs) t a (zero, l, e) d = Contains-append_left (given_in x) (flat_map given_in xs) a (subst (λ z. Contains (given_in z) a) (sym e) d)
flat_contains (x ∷ xs) t a (suc i, l, e) d = Contains-append_right (given_in x) (flat_map given_in xs) a (flat_contains xs t a (i, omega arith, e) d)

-- A signature s without too large types: its bounds can be kept, and so can components that are placed.
module _ (ds : List Decl) (declared : Declared ds) (s : Written) (known : list_all (is_known (length ds)) (types_in s) ≡ true) (placed : are_bounds (width s) 0 s.vars ≡ true)
    (m : total (map nodes (types_in s)) ≤ 1024) (wide : HasWide (types_in s) → ⊥) (hs : List Given) (formed : AreFormed ds (arguments_in s) hs) where
  inside : (t : Ty) → Contains (bound_types s.vars) t → Contains (types_in s) t
  inside t c = Contains-append_left (bound_types s.vars) s.parts t c

  fit_one : (t : Ty) → Contains (types_in s) t → is_component t ≡ true → IsFit ds t
  fit_one t c p = record {
    known = true_at (is_known (length ds)) (types_in s) t known c;
    placed = p;
    small = λ a d k l.
        let g = flat_contains (types_in s) t a c d in
        let f = argument_form ds declared (arguments_in s) hs a formed g k in
        not_too_large ds declared a.ty f.0 (arguments_within (types_in s) m wide a g) f.1 l;
  }

  fit_all : (ts : List Ty) → ((t : Ty) → Contains ts t → Contains (types_in s) t × (is_component t ≡ true)) → AllFit ds ts
  fit_all [] h = tt
  fit_all (t ∷ ts) h = let c = h t (zero, omega arith, refl) in (fit_one t c.0 c.1, fit_all ts (λ u d. h u (suc d.0, omega (arith, d.1), d.2)))

  pub bounds_fit : AllFit ds (bound_types s.vars)
  bounds_fit = fit_all (bound_types s.vars) (λ t c. (inside t c, bounds_components (width s) 0 s.vars t placed c))

  pub parts_fit : list_all is_component s.parts ≡ true → AllFit ds s.parts
  parts_fit h = fit_all s.parts (λ t c. (Contains-append_right (bound_types s.vars) s.parts t c, true_at is_component s.parts t h c))

  -- the rows of a signature can be built whose bounds differ in upper ones with variables alone
  module _ (bounds : List Bound) (forms : Both (IsBoundForm ds) (bound_types s.vars) (bound_types bounds)) where
    few : length s.vars ≤ 1024
    few = let a = bounds_nodes s.vars in let b = total_append (bound_types s.vars) s.parts in omega (arith, a, b, m)

    fit_high : (v : ℕ) → is_bottom (low s v) ≡ false → IsFit ds (high s v)
    fit_high v e = elim (lt_cases v (length s.vars)) [
      | inl a ↦ fit_at ds (bound_types s.vars) bounds_fit (high s v) (high_at s.vars v a)
      | inr b ↦ absurd (let f : true ≡ false = sym (bottom_past s.vars v b) ∙ e in cc)
    ]

    narrow_high : (v : ℕ) → length (alts (high s v)) ≤ 256
    narrow_high v = elim (lt_cases v (length s.vars)) [
      | inl a ↦ few_alternatives (high s v) ((within (types_in s) (high s v) m wide (inside (high s v) (high_at s.vars v a))).alternatives)
      | inr b ↦ (let e = ap (λ z. length (alts z)) (high_past s.vars v b) ∙ ap (λ z. length z) alts-any in omega (arith, e))
    ]

    pub expandable : HasOwnVariables s → IsExpandable ds s bounds
    expandable own = record { own = own; fit = fit_high; forms = lows_formed (IsBoundForm ds) s.vars bounds forms; few = few; narrow = narrow_high }

    pub expandable_like : (w : Written) → HasOwnVariables w → lows w.vars ≡ lows s.vars
        → ((v : ℕ) → (high w v ≡ high s v) ⊎ ((is_bottom (low s v) ≡ true) × (length (alts (high w v)) ≤ 256))) → IsExpandable ds w bounds
    expandable_like w own same highs = record {
      own = own;
      fit = λ v e. elim (highs v) [
        | inl a ↦ subst (IsFit ds) (sym a) (fit_high v (sym (ap is_bottom (low_same w.vars s.vars v same)) ∙ e))
        | inr b ↦ absurd (let f : true ≡ false = sym b.0 ∙ sym (ap is_bottom (low_same w.vars s.vars v same)) ∙ e in cc)
      ];
      forms = subst (λ z. Both (IsBoundForm ds) z (lows bounds)) (sym same) (lows_formed (IsBoundForm ds) s.vars bounds forms);
      few = let e = lows_long w.vars s.vars same in let f = few in omega (arith, e, f);
      narrow = λ v. elim (highs v) [
        | inl a ↦ subst (λ z. length (alts z) ≤ 256) (sym a) (narrow_high v)
        | inr b ↦ b.1
      ];
    }

module _ (ds : List Decl) (declared : Declared ds) (s : Written) (w : IsWellPlaced ds s) (m : total (map nodes (types_in s)) ≤ 1024) (wide : HasWide (types_in s) → ⊥)
    (bounds : List Bound) (hs : List Given) (forms : Both (IsBoundForm ds) (bound_types s.vars) (bound_types bounds)) (formed : AreFormed ds (arguments_in s) hs) where
  pub buildable : IsBuildable ds s bounds
  buildable = record {
    rows = expandable ds declared s w.known (placed_bounds s w.placed) m wide hs formed bounds forms w.own;
    fit = bounds_fit ds declared s w.known (placed_bounds s w.placed) m wide hs formed;
    parts = parts_fit ds declared s w.known (placed_bounds s w.placed) m wide hs formed (placed_parts s w.placed);
    forms = forms;
  }

  -- it is small, where there are few rows
  pub not_limited : (ManyRows (table_of ds) s → ⊥) → TypeLimit ds s → ⊥
  not_limited few (inl a) = omega (arith, a, m)
  not_limited few (inr (inl b)) = wide b
  not_limited few (inr (inr (inl c))) = no_large ds declared s (bound_types bounds) hs forms formed c
  not_limited few (inr (inr (inr d))) = few d

  pub no_limit : (rs : List Listed) → AreAllRows (table_of ds) s rs → TypeLimit ds s → ⊥
  no_limit rs h = not_limited (not_many (table_of ds) s rs h)

-- the tests of the code
pub few_nodes : (s : Written) (ts : List Ty) (r : Bool) → ts ≡ types_in s → (IsTrue r ↔ (1024 < total (map nodes ts))) → r ≡ false → total (map nodes (types_in s)) ≤ 1024
few_nodes s ts r e h f = elim (lt_cases 1024 (total (map nodes (types_in s)))) [
  | inl a ↦ absurd (let b = ap (λ z. total (map nodes z)) e in let g : r ≡ true = h.1 (omega (arith, a, b)) in let k : true ≡ false = sym g ∙ f in cc)
  | inr b ↦ b
]

pub not_wide_here : (s : Written) (ts : List Ty) (r : Bool) → ts ≡ types_in s → (IsTrue r ↔ HasWide ts) → r ≡ false → HasWide (types_in s) → ⊥
not_wide_here s ts r e h f w = let g : r ≡ true = h.1 (subst HasWide (sym e) w) in let k : true ≡ false = sym g ∙ f in cc

-- what is prepared is a signature where its bounds are in order
pub in_order : (ds : List Decl) (s : Written) (p : Prepared) → IsPrepared ds s p → (BoundsCrossed ds s → ⊥) → IsSigOf ds p.sig
in_order ds s p h o = record { kept = h.kept; ordered = subst (λ z. BoundsCrossed ds z → ⊥) (sym h.written) o }
