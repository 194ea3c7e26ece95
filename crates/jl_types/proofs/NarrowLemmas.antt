-- No part of a normal form has more raw alternatives than its type or a part of its type.
use Rattle.std.proofs.Common.{◌≡◌, ◌∙◌, sym, ap, refl, ℕ, suc, ◌+◌, ◌*◌, ◌≤◌, max, arith, List, [], ◌∷◌, ◌++◌, map, length, length-append}
use Rattle.std.specs.List.{flat_map}
use Rattle.std.proofs.lemmas.List.{length-map}
use Rattle.std.proofs.Math.Nat.{zero-mul, suc-mul}
use Rattle.jl_model.specs.declared.ty.Ty.{Ty}
use Rattle.jl_model.specs.declared.ty.Ty.TheViews as V
use Rattle.jl_model.specs.declared.ty.Ty.TheVariants as W
use Rattle.jl_model.specs.declared.ty.Decl.{Decl}
use Rattle.jl_model.specs.Ancestors.{table_of}
use Rattle.jl_model.specs.Counts.{total, product, greatest, Raw, raw, raw_of}
use Rattle.jl_model.specs.Rows.{alts, choices}
use Rattle.jl_model.specs.Signature.{Both, both_end, both_more}
use Rattle.jl_model.specs.Subtype.{Table, Equal}
use Rattle.jl_model.proofs.TypeInduction.{Each, by_cases}
use Rattle.jl_model.proofs.FormLemmas.{is_union, is_tuple, is_nominal, alts-any, alts-union, alts-tuple, alts-nominal, alts-var}
use Rattle.jl_model.proofs.CountLemmas.{raw-any, raw-union, raw-tuple, raw-nominal, raw-var}
use Rattle.jl_model.proofs.NormalLemmas.{In, first, later}
use Rattle.jl_types.specs.Form.{Formed, Settles, AllSettle, any, var, union, tuple, nominal, none, more}
use Rattle.jl_types.specs.Reduce.{Thinned, thin_end, kept, dropped, Inserted, covered, small, large, Reduces, reduced, insert}
use Rattle.jl_types.proofs.CoverLemmas.{each_in}
use Rattle.jl_types.proofs.RawLemmas.{counts, widths}
use Rattle.jl_types.proofs.SettleLemmas.{Grows, Turns, settles_good, turns}

-- HOW MANY ALTERNATIVES
length-rows : (ts : List Ty) (tails : List (List Ty)) → length (flat_map (λ t. map (λ us. t ∷ us) tails) ts) ≡ length ts * length tails
length-rows [] tails = sym (zero-mul (length tails))
length-rows (t ∷ ts) tails =
    let rest = flat_map (λ t. map (λ us. t ∷ us) tails) ts in
    let a : length (map (λ us. t ∷ us) tails ++ rest) ≡ length (map (λ us. t ∷ us) tails) + length rest = length-append (map (λ us. t ∷ us) tails) rest in
    let b : length (map (λ us. t ∷ us) tails) ≡ length tails = length-map tails (λ us. t ∷ us) in
    let c : length rest ≡ length ts * length tails = length-rows ts tails in
    let d : suc (length ts) * length tails ≡ length ts * length tails + length tails = suc-mul (length ts) (length tails) in
    omega (arith, a, b, c, d)

-- the raw alternatives are as many as the alternatives, and no more than the widest part has
abbrev pub Counted : Ty → Type 0
Counted t = ((raw t).count ≡ length (alts t)) × ((raw t).count ≤ (raw t).widest)

sum_is : (ts : List Ty) → Each Counted ts → total (counts ts) ≡ length (flat_map alts ts)
sum_is [] e = refl
sum_is (t ∷ ts) e = let a = sum_is ts e.1 in let b = e.0.0 in let c = length-append (alts t) (flat_map alts ts) in omega (arith, a, b, c)

product_is : (ts : List Ty) → Each Counted ts → product (counts ts) ≡ length (choices (map alts ts))
product_is [] e = refl
product_is (t ∷ ts) e = ap (λ z. z * product (counts ts)) e.0.0 ∙ ap (λ z. length (alts t) * z) (product_is ts e.1) ∙ sym (length-rows (alts t) (choices (map alts ts)))

counted_of : (t : Ty) (n : ℕ) (rs : List Raw) → raw t ≡ raw_of n rs → n ≡ length (alts t) → Counted t
counted_of t n rs e h =
    let a : (raw t).count ≡ n = ap (λ r. r.count) e in
    let b : (raw t).widest ≡ max n (greatest (map (λ r. r.widest) rs)) = ap (λ r. r.widest) e in
    (a ∙ h, omega (arith, a, b))

pub raw_counts : (t : Ty) → Counted t
raw_counts = by_cases Counted (record {
  any = counted_of W.Any 1 [] raw-any (ap (λ z. length z) (sym alts-any));
  union = λ ts e. counted_of (V.Union ts) (total (counts ts)) (map raw ts) (raw-union ts) (sum_is ts e ∙ ap (λ z. length z) (sym (alts-union ts)));
  tuple = λ ts e. counted_of (V.Tuple ts) (product (counts ts)) (map raw ts) (raw-tuple ts)
      (product_is ts e ∙ sym (length-map (choices (map alts ts)) (λ us. V.Tuple us)) ∙ ap (λ z. length z) (sym (alts-tuple ts)));
  nominal = λ k ts e. counted_of (V.Nominal k ts) 1 (map raw ts) (raw-nominal k ts) (ap (λ z. length z) (sym (alts-nominal k ts)));
  var = λ v. counted_of (W.Var v) 1 [] (raw-var v) (ap (λ z. length z) (sym (alts-var v)));
})

-- HOW MANY ARE LEFT
module _ (n : Table) where
  thin_short : (c : Ty) (ts us : List Ty) → Thinned n c ts us → length us ≤ length ts
  thin_short c ts us thin_end = omega arith
  thin_short c ts us (kept t ss vs d k) = let h = thin_short c ss vs k in omega arith
  thin_short c ts us (dropped t ss vs d k) = let h = thin_short c ss us k in omega arith

  insert_short : (c : Ty) (ts us : List Ty) → Inserted n ts c us → length us ≤ length ts + 1
  insert_short c ts us (covered b) = omega arith
  insert_short c ts us (small vs s b d) = let h = thin_short c ts vs d in omega (arith, length-append vs (c ∷ []))
  insert_short c ts us (large s b) = omega (arith, length-append ts (c ∷ []))

  -- no more are left than there were
  pub reduce_short : (cs ts us : List Ty) → Reduces n cs ts us → length us ≤ length ts + length cs
  reduce_short cs ts us (reduced vs) = omega arith
  reduce_short cs ts us (insert c ds vs ws os i r) = let h = insert_short c ts ws i in let k = reduce_short ds ws us r in omega arith

-- WIDTH
-- one raw alternative, and no part with more than w
pub record Narrow (w : ℕ) (t : Ty) : Type 0 where
  pub single : (raw t).count ≡ 1
  pub parts : (raw t).widest ≤ w

-- how wide a type is, and what it is made of
width_is : (t : Ty) (n : ℕ) (rs : List Raw) → raw t ≡ raw_of n rs → (raw t).widest ≡ max n (greatest (map (λ r. r.widest) rs))
width_is t n rs e = ap (λ r. r.widest) e

both_long : (R : Ty → Ty → Type 0) (ts us : List Ty) → Both R ts us → length us ≡ length ts
both_long R ts us both_end = refl
both_long R ts us (both_more t u vs ws h b) = ap suc (both_long R vs ws b)

module _ (w : ℕ) (positive : 1 ≤ w) where
  narrow_of : (t : Ty) (n : ℕ) (rs : List Raw) → raw t ≡ raw_of n rs → n ≡ 1 → greatest (map (λ r. r.widest) rs) ≤ w → Narrow w t
  narrow_of t n rs e one l = record { single = ap (λ r. r.count) e ∙ one; parts = omega (arith, width_is t n rs e, one, l, positive) }

  product_one : (us : List Ty) → Each (Narrow w) us → product (counts us) ≡ 1
  product_one [] h = refl
  product_one (u ∷ us) h = ap (λ z. z * product (counts us)) h.0.single ∙ ap (λ z. 1 * z) (product_one us h.1)

  total_one : (us : List Ty) → Each (Narrow w) us → total (counts us) ≡ length us
  total_one [] h = refl
  total_one (u ∷ us) h = let a = h.0.single in let b = total_one us h.1 in omega (arith, a, b)

  widths_within : (us : List Ty) → Each (Narrow w) us → greatest (widths us) ≤ w
  widths_within [] h = omega arith
  widths_within (u ∷ us) h = let a = h.0.parts in let b = widths_within us h.1 in omega (arith, a, b)

  all_narrow : (cs us : List Ty) → Each (Narrow w) cs → ((x : Ty) → In x us → In x cs) → Each (Narrow w) us
  all_narrow cs [] h f = tt
  all_narrow cs (u ∷ us) h f = (each_in (Narrow w) u cs h (f u (first u us refl)), all_narrow cs us h (λ x i. f x (later u us i)))

  module _ (ds : List Decl) where
    abbrev n : Table
    n = table_of ds

    -- a form of a type that is no wider than w
    record NarrowForm (t u : Ty) : Type 0 where
      form : Formed ds t u
      parts : (raw t).widest ≤ w

    forms_within : (ts us : List Ty) → Both NarrowForm ts us → greatest (widths us) ≤ w
    forms_within ts us both_end = omega arith
    forms_within ts us (both_more t u vs ws h b) = let a = h.form.narrow in let c = h.parts in let d = forms_within vs ws b in omega (arith, a, c, d, positive)

    narrow_grow : Grows NarrowForm (Narrow w)
    narrow_grow = record {
      any = narrow_of W.Any 1 [] raw-any refl (omega arith);
      var = λ v. narrow_of (W.Var v) 1 [] (raw-var v) refl (omega arith);
      nominal = λ k ts us b. narrow_of (V.Nominal k us) 1 (map raw us) (raw-nominal k us) refl (forms_within ts us b);
      tuple = λ us h. narrow_of (V.Tuple us) (product (counts us)) (map raw us) (raw-tuple us) (product_one us h) (widths_within us h);
    }

    forms_narrow : (ts us : List Ty) → Both (Formed ds) ts us → greatest (widths ts) ≤ w → Both NarrowForm ts us
    forms_narrow ts us both_end l = both_end
    forms_narrow ts us (both_more t u vs ws f b) l = both_more t u vs ws (record { form = f; parts = omega (arith, l) }) (forms_narrow vs ws b (omega (arith, l)))

    parts_within : (t : Ty) (n : ℕ) (ts : List Ty) → raw t ≡ raw_of n (map raw ts) → (raw t).widest ≤ w → greatest (widths ts) ≤ w
    parts_within t n ts e l = omega (arith, width_is t n (map raw ts) e, l)

    mutual
      narrow_settles : (t s : Ty) → Settles (Formed ds) t s → (raw t).widest ≤ w → Settles NarrowForm t s
      narrow_settles t s (any a e) l = any t e
      narrow_settles t s (var a v e) l = var t v e
      narrow_settles t s (union a b ts us e f h) l =
          union t s ts us e f (all_narrow_settle ts us h (parts_within t (total (counts ts)) ts (ap raw (is_union t ts e) ∙ raw-union ts) l))
      narrow_settles t s (tuple a b ts us e f h) l =
          tuple t s ts us e f (all_narrow_settle ts us h (parts_within t (product (counts ts)) ts (ap raw (is_tuple t ts e) ∙ raw-tuple ts) l))
      narrow_settles t s (nominal a b k ts us e f h) l =
          nominal t s k ts us e f (forms_narrow ts us h (parts_within t 1 ts (ap raw (is_nominal t k ts e) ∙ raw-nominal k ts) l))

      all_narrow_settle : (ts us : List Ty) → AllSettle (Formed ds) ts us → greatest (widths ts) ≤ w → AllSettle NarrowForm ts us
      all_narrow_settle ts us none l = none
      all_narrow_settle ts us (more t s vs ws h k) l = more t s vs ws (narrow_settles t s h (omega (arith, l))) (all_narrow_settle vs ws k (omega (arith, l)))

    narrow_equal : (t u : Ty) → NarrowForm t u → Equal n t u
    narrow_equal t u h = h.form.equal

    -- the alternatives of a settled type
    settled_narrow : (t s : Ty) → Settles (Formed ds) t s → (raw t).widest ≤ w → Each (Narrow w) (alts s)
    settled_narrow t s h l = settles_good n NarrowForm narrow_equal (Narrow w) narrow_grow t s (narrow_settles t s h l)

    settled_few : (t s : Ty) → Settles (Formed ds) t s → (raw t).widest ≤ w → length (alts s) ≤ (raw t).widest
    settled_few t s h l =
        let b = turns n NarrowForm narrow_equal (Narrow w) narrow_grow t s (narrow_settles t s h l) in
        let c = raw_counts t in
        omega (arith, both_long (Turns n (Narrow w)) (alts t) (alts s) b, c.0, c.1)

-- a union of no more than v narrow types
union_narrow : (v : ℕ) (us : List Ty) → Each (Narrow (max 1 v)) us → length us ≤ v → (raw (V.Union us)).widest ≤ v
union_narrow v [] h l = omega (arith, width_is (V.Union []) 0 [] (raw-union []))
union_narrow v (u ∷ us) h l =
    let ts = u ∷ us in
    let w = max 1 v in
    omega (arith, width_is (V.Union ts) (total (counts ts)) (map raw ts) (raw-union ts), total_one w (omega arith) ts h, widths_within w (omega arith) ts h, l)

-- not none
has_some : (x : Ty) (ts : List Ty) → In x ts → 1 ≤ length ts
has_some x ts (first y ys e) = omega arith
has_some x ts (later y ys i) = omega arith

-- ALTERNATIVES, where arguments became their forms
module _ (ds : List Decl) (t s : Ty) (settles : Settles (Formed ds) t s) where
  abbrev wide : ℕ
  wide = max 1 (raw t).widest

  narrow : Each (Narrow wide) (alts s)
  narrow = settled_narrow wide (omega arith) ds t s settles (omega arith)

  few : length (alts s) ≤ (raw t).widest
  few = settled_few wide (omega arith) ds t s settles (omega arith)

  -- one of them
  pub member_narrow : (x : Ty) → In x (alts s) → (raw x).widest ≤ (raw t).widest
  member_narrow x i = let a = each_in (Narrow wide) x (alts s) narrow i in let b = a.parts in omega (arith, b, has_some x (alts s) i, few)

  -- no more than they are, of them
  pub members_narrow : (us : List Ty) → ((x : Ty) → In x us → In x (alts s)) → length us ≤ length (alts s) → (raw (V.Union us)).widest ≤ (raw t).widest
  members_narrow us from l = union_narrow (raw t).widest us (all_narrow wide (omega arith) (alts s) us narrow from) (omega (arith, l, few))
