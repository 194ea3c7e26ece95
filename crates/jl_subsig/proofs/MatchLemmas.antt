-- Signatures that differ in equal arguments alone have alike bounds, one by one, and the same kinds of variables.
use Rattle.std.proofs.Common.{◌≡◌, ◌∙◌, sym, ap, refl, ℕ, zero, suc, ◌+◌, arith, Bool, true, false, cond, nat_eq, List, [], ◌∷◌, ◌++◌, map, length, get_or}
use Rattle.std.specs.List.{flat_map}
use Rattle.jl_model.specs.declared.ty.Ty.{Ty}
use Rattle.jl_model.specs.declared.ty.Ty.TheViews as V
use Rattle.jl_model.specs.declared.ty.Ty.TheVariants as W
use Rattle.jl_model.specs.declared.ty.Bound.{Bound}
use Rattle.jl_model.specs.declared.ty.Written.{Written}
use Rattle.jl_model.specs.Kinds.{Places, nowhere, plus, plus_all, below_nominal, places, kind_of}
use Rattle.jl_model.specs.Rows.{width, free, low, high, kind, vars_in, part_places, bound_places}
use Rattle.jl_model.specs.Signature.{Both, both_end, both_more}
use Rattle.jl_model.specs.Subtype.{Table}
use Rattle.jl_model.specs.Refusals.{bound_types}
use Rattle.jl_model.proofs.TypeInduction.{Each, by_cases}
use Rattle.jl_model.proofs.FormLemmas.{is_union, is_tuple, is_nominal, vars-any, vars-union, vars-tuple, vars-nominal, vars-var}
use Rattle.jl_types.specs.Form.{Settles, AllSettle, any, var, union, tuple, nominal, none, more}
use Rattle.jl_subsig.specs.Alike.{EqualArguments, Alike, AreAlike}
use Rattle.jl_subsume.proofs.ScopeLemmas.{places-any, places-union, places-tuple, places-nominal, places-var}
use Rattle.jl_subsig.proofs.AlikeLemmas.{all_vars, alike_self}

pub record Matches (n : Table) (a b : Written) : Type 0 where
  pub width : width a ≡ width b
  pub low : (v : ℕ) → Alike n (low a v) (low b v)
  pub high : (v : ℕ) → Alike n (high a v) (high b v)
  pub kinds : (v : ℕ) → kind a v ≡ kind b v
  pub parts : Both (Alike n) a.parts b.parts

-- bounds, one by one
widths : (n : Table) (bs cs : List Bound) → Both (Alike n) (bound_types bs) (bound_types cs) → length bs ≡ length cs
widths n [] [] h = refl
widths n [] (c ∷ cs) h = elim h [ ]
widths n (b ∷ bs) [] h = elim h [ ]
widths n (b ∷ bs) (c ∷ cs) (both_more x y xs ys p (both_more z w zs ws q r)) = ap suc (widths n bs cs r)

pub lows : (P : Ty → Ty → Type 0) → P (V.Union []) (V.Union []) → (bs cs : List Bound) → Both P (bound_types bs) (bound_types cs) → (v : ℕ) → P (get_or bs v free).low (get_or cs v free).low
lows P d [] [] h v = d
lows P d [] (c ∷ cs) h v = elim h [ ]
lows P d (b ∷ bs) [] h v = elim h [ ]
lows P d (b ∷ bs) (c ∷ cs) (both_more x y xs ys p (both_more z w zs ws q r)) zero = p
lows P d (b ∷ bs) (c ∷ cs) (both_more x y xs ys p (both_more z w zs ws q r)) (suc v) = lows P d bs cs r v

pub highs : (P : Ty → Ty → Type 0) → P W.Any W.Any → (bs cs : List Bound) → Both P (bound_types bs) (bound_types cs) → (v : ℕ) → P (get_or bs v free).high (get_or cs v free).high
highs P d [] [] h v = d
highs P d [] (c ∷ cs) h v = elim h [ ]
highs P d (b ∷ bs) [] h v = elim h [ ]
highs P d (b ∷ bs) (c ∷ cs) (both_more x y xs ys p (both_more z w zs ws q r)) zero = q
highs P d (b ∷ bs) (c ∷ cs) (both_more x y xs ys p (both_more z w zs ws q r)) (suc v) = highs P d bs cs r v

-- how often a number stands in a list
abbrev count : ℕ → List ℕ → ℕ
count v [] = 0
count v (n ∷ ns) = cond (nat_eq v n) 1 0 + count v ns

count-append : (v : ℕ) (ms ns : List ℕ) → count v (ms ++ ns) ≡ count v ms + count v ns
count-append v [] ns = let e : count v ns ≡ 0 + count v ns = omega arith in e
count-append v (m ∷ ms) ns = let e = count-append v ms ns in omega (arith, e)

abbrev total : Places → ℕ
total p = p.covariant + p.invariant

module _ (v : ℕ) where
  abbrev Counts : Ty → Type 0
  Counts t = total (places v t) ≡ count v (vars_in t)

  count_all : (ts : List Ty) → Each Counts ts → total (plus_all (map (places v) ts)) ≡ count v (flat_map vars_in ts)
  count_all [] e = let f : 0 + 0 ≡ 0 = omega arith in f
  count_all (t ∷ ts) e =
      let p = e.0 in
      let q = count_all ts e.1 in
      let r = count-append v (vars_in t) (flat_map vars_in ts) in
      omega (arith, p, q, r)

  count_var : (w : ℕ) (b : Bool) → total (cond b (record { covariant = 1; invariant = 0 }) nowhere) ≡ cond b 1 0 + 0
  count_var w true = let f : 1 + 0 ≡ 1 + 0 = refl in f
  count_var w false = let f : 0 + 0 ≡ 0 + 0 = refl in f

  counts : (t : Ty) → Counts t
  counts = by_cases Counts (record {
    any = ap total (places-any v) ∙ (let f : 0 + 0 ≡ 0 = omega arith in f) ∙ sym (ap (count v) vars-any);
    union = λ ts e. ap total (places-union v ts) ∙ count_all ts e ∙ sym (ap (count v) (vars-union ts));
    tuple = λ ts e. ap total (places-tuple v ts) ∙ count_all ts e ∙ sym (ap (count v) (vars-tuple ts));
    nominal = λ k ts e.
        let p : total (below_nominal (plus_all (map (places v) ts))) ≡ total (plus_all (map (places v) ts)) = omega arith in
        ap total (places-nominal v k ts) ∙ p ∙ count_all ts e ∙ sym (ap (count v) (vars-nominal k ts));
    var = λ w. ap total (places-var v w) ∙ count_var w (nat_eq v w) ∙ sym (ap (count v) (vars-var w));
  })

  each_counts : (ts : List Ty) → Each Counts ts
  each_counts [] = tt
  each_counts (t ∷ ts) = (counts t, each_counts ts)

  -- below a nominal type the variables are counted
  nominal_places : (k : ℕ) (ts us : List Ty) → flat_map vars_in ts ≡ flat_map vars_in us → places v (V.Nominal k ts) ≡ places v (V.Nominal k us)
  nominal_places k ts us e =
      let p : total (plus_all (map (places v) ts)) ≡ total (plus_all (map (places v) us)) = count_all ts (each_counts ts) ∙ ap (count v) e ∙ sym (count_all us (each_counts us)) in
      let P : ℕ → Places = λ m. record { covariant = 0; invariant = m } in
      places-nominal v k ts ∙ ap P p ∙ sym (places-nominal v k us)

  module _ (n : Table) where
    abbrev Q : Ty → Ty → Type 0
    Q = EqualArguments n

    mutual
      same_places : (t u : Ty) → Settles Q t u → places v t ≡ places v u
      same_places t u (any a e) = refl
      same_places t u (var a w e) = refl
      same_places t u (union a b ts us e f h) = ap (places v) (is_union t ts e) ∙ places-union v ts ∙ all_same_places ts us h ∙ sym (ap (places v) (is_union u us f) ∙ places-union v us)
      same_places t u (tuple a b ts us e f h) = ap (places v) (is_tuple t ts e) ∙ places-tuple v ts ∙ all_same_places ts us h ∙ sym (ap (places v) (is_tuple u us f) ∙ places-tuple v us)
      same_places t u (nominal a b k ts us e f h) = ap (places v) (is_nominal t k ts e) ∙ nominal_places k ts us (all_vars n ts us h) ∙ sym (ap (places v) (is_nominal u k us f))

      all_same_places : (ts us : List Ty) → AllSettle Q ts us → plus_all (map (places v) ts) ≡ plus_all (map (places v) us)
      all_same_places ts us none = refl
      all_same_places ts us (more t u vs ws p r) = ap (λ z. plus z (plus_all (map (places v) vs))) (same_places t u p) ∙ ap (λ z. plus (places v u) z) (all_same_places vs ws r)

    both_same_places : (ts us : List Ty) → Both (Alike n) ts us → plus_all (map (places v) ts) ≡ plus_all (map (places v) us)
    both_same_places ts us both_end = refl
    both_same_places ts us (both_more t u vs ws p r) = ap (λ z. plus z (plus_all (map (places v) vs))) (same_places t u p) ∙ ap (λ z. plus (places v u) z) (both_same_places vs ws r)

    -- bounds that are alike have the same places
    same_bound_places : (bs cs : List Bound) → Both (Alike n) (bound_types bs) (bound_types cs) → bound_places v bs ≡ bound_places v cs
    same_bound_places [] [] h = refl
    same_bound_places [] (c ∷ cs) h = elim h [ ]
    same_bound_places (b ∷ bs) [] h = elim h [ ]
    same_bound_places (b ∷ bs) (c ∷ cs) (both_more x y xs ys p (both_more z w zs ws q r)) =
        ap (λ i. plus (plus i (places v b.high)) (bound_places v bs)) (same_places b.low c.low p) ∙ ap (λ i. plus (plus (places v c.low) i) (bound_places v bs)) (same_places b.high c.high q)
        ∙ ap (λ i. plus (plus (places v c.low) (places v c.high)) i) (same_bound_places bs cs r)

pub matches_of : (n : Table) (a b : Written) → AreAlike n a b → Matches n a b
matches_of n a b h = record {
  width = widths n a.vars b.vars h.bounds;
  low = lows (Alike n) (alike_self n (V.Union [])) a.vars b.vars h.bounds;
  high = highs (Alike n) (alike_self n W.Any) a.vars b.vars h.bounds;
  kinds = λ v.
      ap (λ z. kind_of (plus z (below_nominal (bound_places v a.vars)))) (both_same_places v n a.parts b.parts h.parts)
      ∙ ap (λ z. kind_of (plus (part_places b v) (below_nominal z))) (same_bound_places v n a.vars b.vars h.bounds);
  parts = h.parts;
}
