-- What is kept of a declaration that nothing refuses is ready to be added, where its arguments keep the declared bounds.
use Rattle.std.proofs.Common.{◌≡◌, ◌∙◌, sym, ap, subst, refl, ℕ, zero, suc, ◌+◌, ◌<◌, arith, Bool, true, false, ◌&&◌, nat_eq, nat_lt, List, [], ◌∷◌, ◌++◌, map, length, get_or, slice_get, ◌⊎◌, inl, inr}
use Rattle.std.specs.List.{flat_map, list_all, Contains}
use Rattle.std.proofs.lemmas.List.{length-map}
use Rattle.jl_model.specs.declared.ty.Ty.{Ty, out-Ty}
use Rattle.jl_model.specs.declared.ty.Ty.TheOpen.{Ty-F, Any, Union, Tuple, Nominal, Var}
use Rattle.jl_model.specs.declared.ty.Ty.TheViews.{outs-Any, outs-Union, outs-Tuple, outs-Nominal, outs-Var}
use Rattle.jl_model.specs.declared.ty.Ty.TheViews as V
use Rattle.jl_model.specs.declared.ty.Ty.TheVariants as W
use Rattle.jl_model.specs.declared.ty.Bound.{Bound}
use Rattle.jl_model.specs.declared.ty.Decl.{Decl}
use Rattle.jl_model.specs.Rows.{vars_in}
use Rattle.jl_model.specs.Signature.{Both}
use Rattle.jl_model.specs.Subtype.{Table, opaque, Below}
use Rattle.jl_model.specs.Ancestors.{Ancestor, put_under, line_above, lines_after}
use Rattle.jl_model.specs.Counts.{IsWithinLimits}
use Rattle.jl_model.specs.Valid.{is_known, is_counted, is_closed, params_of}
use Rattle.jl_model.specs.Kept.{field_types, Settled, AllSettled, plain, variable as alone, union, tuple, nominal, settled_end, settled_more, Bounds, bounds_end, bounds_more, IsKept}
use Rattle.jl_model.specs.Refusals.{Declared, table_with, bound_types, types_of, own, is_abstract_parent, is_placed, is_placed_field, is_known_decl, is_placed_decl, HasOwnVariables, IsReady, FormLimit, BoundBroken, TooMany, DuplicateField, AllWithinLimits, sized_types, ancestors}
use Rattle.jl_model.proofs.TypeInduction.{Each, by_cases}
use Rattle.jl_model.proofs.FormLemmas.{is_any, is_nominal, vars-any, vars-var, vars-union, vars-tuple, vars-nominal}
use Rattle.jl_model.proofs.PutLemmas.{and_l, and_r, both_true}
use Rattle.jl_model.proofs.AncestorLemmas.{Lawful, slice_before, slice_last, slice_past, long-snoc, each_true}
use Rattle.jl_model.proofs.SelfLemmas.{equal_self}
use Rattle.jl_model.proofs.HeightLemmas.{Ways}
use Rattle.jl_model.proofs.DeclaredLemmas.{not_false}
use Rattle.jl_types.proofs.GroundLemmas.{both_long}
use Rattle.jl_types.proofs.KeptOnceLemmas.{settled_same}
use Rattle.jl_norm.specs.Refused.{IsWellWritten, IsOrdered}
use Rattle.jl_norm.proofs.InheritLemmas.{Has, AllHave, has_any, has_var, has_union, has_tuple, has_nominal, have_none, have_more, have_each, union_has, tuple_has, nominal_has}
use Rattle.jl_norm.proofs.ListLemmas.{all-types, counted-any, counted-var, counted-union, counted-tuple, counted-nominal}
use Rattle.jl_norm.proofs.PlaceLemmas.{placed-any, placed-nominal, field-nominal}
use Rattle.jl_norm.proofs.PartLemmas.{AnyVar, AnyName, NameBelow, known_has, has_known}
use Rattle.jl_types.proofs.GivenLemmas.{each_given}
use Rattle.jl_norm.proofs.SizeLemmas.{within_front}
use Rattle.jl_norm.proofs.ArgumentLemmas.{within_all_each}
use Rattle.jl_norm.proofs.SmallLemmas.{NormalWhereClosed, kept_normal, all_within, bounds_again, within_in, contains_front}
use Rattle.jl_norm.proofs.KeepLemmas.{with_lawful, bounds_are_known, bounds_are_closed, parent_is_known, fields_are_known, fields_are_placed}
use Rattle.jl_norm.proofs.KeptLemmas.{own_known, parent_known_next, parent_is_field, settled_exists, sizes_same}
use Rattle.jl_norm.proofs.NextLemmas.{form_closed}
use Rattle.jl_norm.proofs.AgainLemmas.{settled_has, all_settled_have, bounds_have, bounds_long, kept_again}
use Rattle.jl_norm.proofs.NameLemmas.{TwoPlaces}
use Rattle.jl_norm.proofs.CrossLemmas.{crossed_kept, crossed_written}

-- lists of types that pass a test
module _ (P : ℕ → Type 0) (R : ℕ → List Ty → Type 0) (q : Ty → Bool) where
  all_have : ((t : Ty) → q t ≡ true → Has P R t) → (ts : List Ty) → list_all q ts ≡ true → AllHave P R ts
  all_have f [] h = have_none
  all_have f (t ∷ ts) h = have_more t ts (f t (and_l (q t) (list_all q ts) h)) (all_have f ts (and_r (q t) (list_all q ts) h))

  have_all : ((t : Ty) → Has P R t → q t ≡ true) → (ts : List Ty) → AllHave P R ts → list_all q ts ≡ true
  have_all f ts have_none = refl
  have_all f ts (have_more t us h r) = both_true (q t) (list_all q us) (f t h) (have_all f us r)

each_from : (P Q : Ty → Type 0) (ts : List Ty) → Each (λ t. P t → Q t) ts → Each P ts → Each Q ts
each_from P Q [] e h = tt
each_from P Q (t ∷ ts) e h = (e.0 h.0, each_from P Q ts e.1 h.1)

each_have : (P : ℕ → Type 0) (R : ℕ → List Ty → Type 0) (q : Ty → Bool) (ts : List Ty) → Each (λ t. q t ≡ true → Has P R t) ts → list_all q ts ≡ true → AllHave P R ts
each_have P R q [] e h = have_none
each_have P R q (t ∷ ts) e h = have_more t ts (e.0 (and_l (q t) (list_all q ts) h)) (each_have P R q ts e.1 (and_r (q t) (list_all q ts) h))

-- THE NUMBERS OF ARGUMENTS
abbrev Wide : List Decl → ℕ → List Ty → Type 0
Wide ds k xs = length xs ≡ length (params_of (slice_get ds k))

abbrev is_wide : List Decl → ℕ → List Ty → Bool
is_wide ds k xs = nat_eq (length xs) (length (params_of (slice_get ds k)))

eq_from : (a b : ℕ) → nat_eq a b ≡ true → a ≡ b
eq_from a b h = grind (arith, h)

eq_to : (a b : ℕ) → a ≡ b → nat_eq a b ≡ true
eq_to a b h = grind (arith, h)

counted_has : (ds : List Decl) (t : Ty) → is_counted ds t ≡ true → Has AnyVar (Wide ds) t
counted_has ds = by_cases (λ t. is_counted ds t ≡ true → Has AnyVar (Wide ds) t) (record {
  any = λ h. has_any W.Any outs-Any;
  union = λ ts e h. has_union (V.Union ts) ts (outs-Union ts) (each_have AnyVar (Wide ds) (is_counted ds) ts e (sym (counted-union ds ts) ∙ h));
  tuple = λ ts e h. has_tuple (V.Tuple ts) ts (outs-Tuple ts) (each_have AnyVar (Wide ds) (is_counted ds) ts e (sym (counted-tuple ds ts) ∙ h));
  nominal = λ k ts e h.
      let g = sym (counted-nominal ds k ts) ∙ h in
      has_nominal (V.Nominal k ts) k ts (outs-Nominal k ts) (eq_from (length ts) (length (params_of (slice_get ds k))) (and_l (is_wide ds k ts) (list_all (is_counted ds) ts) g))
      (each_have AnyVar (Wide ds) (is_counted ds) ts e (and_r (is_wide ds k ts) (list_all (is_counted ds) ts) g));
  var = λ v h. has_var (W.Var v) v (outs-Var v) tt;
})

-- by the numbers in another list, where they are the same
has_counted : (ds es : List Decl) → ((k : ℕ) → length (params_of (slice_get ds k)) ≡ length (params_of (slice_get es k))) → (t : Ty) → Has AnyVar (Wide ds) t → is_counted es t ≡ true
has_counted ds es same =
    let H = Has AnyVar (Wide ds) in
    let C = λ (t : Ty). is_counted es t ≡ true in
    by_cases (λ t. H t → C t) (record {
      any = λ h. counted-any es;
      union = λ ts e h. counted-union es ts ∙ each_true (is_counted es) ts (each_from H C ts e (have_each AnyVar (Wide ds) ts (union_has AnyVar (Wide ds) (V.Union ts) ts (outs-Union ts) h)));
      tuple = λ ts e h. counted-tuple es ts ∙ each_true (is_counted es) ts (each_from H C ts e (have_each AnyVar (Wide ds) ts (tuple_has AnyVar (Wide ds) (V.Tuple ts) ts (outs-Tuple ts) h)));
      nominal = λ k ts e h.
          let r = nominal_has AnyVar (Wide ds) (V.Nominal k ts) k ts (outs-Nominal k ts) h in
          counted-nominal es k ts
          ∙ both_true (is_wide es k ts) (list_all (is_counted es) ts) (eq_to (length ts) (length (params_of (slice_get es k))) (r.0 ∙ same k))
          (each_true (is_counted es) ts (each_from H C ts e (have_each AnyVar (Wide ds) ts r.1)));
      var = λ v h. counted-var es v;
    })

order_of : (a b : ℕ) → (a < b) ⊎ ((a ≡ b) ⊎ (b < a))
order_of zero zero = inr (inl refl)
order_of zero (suc b) = inl (omega arith)
order_of (suc a) zero = inr (inr (omega arith))
order_of (suc a) (suc b) = elim (order_of a b) [ inl h ↦ inl (omega arith) | inr g ↦ elim g [ inl h ↦ inr (inl (omega arith)) | inr h ↦ inr (inr (omega arith)) ] ]

counts_same : (ds : List Decl) (d e : Decl) → length d.params ≡ length e.params → (k : ℕ) → length (params_of (slice_get (ds ++ d ∷ []) k)) ≡ length (params_of (slice_get (ds ++ e ∷ []) k))
counts_same ds d e long k = elim (order_of k (length ds)) [
  | inl lt ↦ ap (λ o. length (params_of o)) (slice_before ds d k lt ∙ sym (slice_before ds e k lt))
  | inr g ↦ elim g [
    | inl i ↦ ap (λ o. length (params_of o)) (slice_last ds d k i) ∙ long ∙ sym (ap (λ o. length (params_of o)) (slice_last ds e k i))
    | inr gt ↦
        ap (λ o. length (params_of o)) (slice_past (ds ++ d ∷ []) k (omega (arith, long-snoc ds d)) ∙ sym (slice_past (ds ++ e ∷ []) k (omega (arith, long-snoc ds e))))
  ]
]

-- THE VARIABLES
abbrev Below_p : ℕ → ℕ → Type 0
Below_p p v = v < p

abbrev is_below : ℕ → ℕ → Bool
is_below p v = nat_lt v p

abbrev vars_below : ℕ → Ty → Bool
vars_below p t = list_all (is_below p) (vars_in t)

lt_from : (v p : ℕ) → nat_lt v p ≡ true → v < p
lt_from v p h = grind (arith, h)

lt_to : (v p : ℕ) → v < p → nat_lt v p ≡ true
lt_to v p h = grind arith

and_assoc : (a b c : Bool) → (a && (b && c)) ≡ ((a && b) && c)
and_assoc true b c = refl
and_assoc false b c = refl

all_append : (q : ℕ → Bool) (ks js : List ℕ) → list_all q (ks ++ js) ≡ (list_all q ks && list_all q js)
all_append q [] js = refl
all_append q (k ∷ ks) js = ap (λ b. q k && b) (all_append q ks js) ∙ and_assoc (q k) (list_all q ks) (list_all q js)

pub all_vars : (p : ℕ) (ts : List Ty) → list_all (is_below p) (flat_map vars_in ts) ≡ list_all (vars_below p) ts
all_vars p [] = refl
all_vars p (t ∷ ts) = all_append (is_below p) (vars_in t) (flat_map vars_in ts) ∙ ap (λ b. vars_below p t && b) (all_vars p ts)

vars_has : (p : ℕ) (t : Ty) → vars_below p t ≡ true → Has (Below_p p) AnyName t
vars_has p = by_cases (λ t. vars_below p t ≡ true → Has (Below_p p) AnyName t) (record {
  any = λ h. has_any W.Any outs-Any;
  union = λ ts e h. has_union (V.Union ts) ts (outs-Union ts) (each_have (Below_p p) AnyName (vars_below p) ts e (sym (ap (list_all (is_below p)) (vars-union ts) ∙ all_vars p ts) ∙ h));
  tuple = λ ts e h. has_tuple (V.Tuple ts) ts (outs-Tuple ts) (each_have (Below_p p) AnyName (vars_below p) ts e (sym (ap (list_all (is_below p)) (vars-tuple ts) ∙ all_vars p ts) ∙ h));
  nominal = λ k ts e h. has_nominal (V.Nominal k ts) k ts (outs-Nominal k ts) tt (each_have (Below_p p) AnyName (vars_below p) ts e (sym (ap (list_all (is_below p)) (vars-nominal k ts) ∙ all_vars p ts) ∙ h));
  var = λ v h. has_var (W.Var v) v (outs-Var v) (lt_from v p (and_l (nat_lt v p) true (sym (ap (list_all (is_below p)) (vars-var v)) ∙ h)));
})

var_has : (P : ℕ → Type 0) (t : Ty) (v : ℕ) → out-Ty t ≡ Var v → Has P AnyName t → P v
var_has P t v o (has_any a e) = let f : Any ≡ Var v = sym e ∙ o in cc
var_has P t v o (has_var a w e p) = let f : Var w ≡ Var v = sym e ∙ o in let i : w ≡ v = cc in subst P i p
var_has P t v o (has_union a ts e h) = let f : Union ts ≡ Var v = sym e ∙ o in cc
var_has P t v o (has_tuple a ts e h) = let f : Tuple ts ≡ Var v = sym e ∙ o in cc
var_has P t v o (has_nominal a k ts e r h) = let f : Nominal k ts ≡ Var v = sym e ∙ o in cc

has_vars : (p : ℕ) (t : Ty) → Has (Below_p p) AnyName t → vars_below p t ≡ true
has_vars p =
    let H = Has (Below_p p) AnyName in
    let C = λ (t : Ty). vars_below p t ≡ true in
    by_cases (λ t. H t → C t) (record {
      any = λ h. ap (list_all (is_below p)) vars-any;
      union = λ ts e h. ap (list_all (is_below p)) (vars-union ts) ∙ all_vars p ts ∙ each_true (vars_below p) ts (each_from H C ts e (have_each (Below_p p) AnyName ts (union_has (Below_p p) AnyName (V.Union ts) ts (outs-Union ts) h)));
      tuple = λ ts e h. ap (list_all (is_below p)) (vars-tuple ts) ∙ all_vars p ts ∙ each_true (vars_below p) ts (each_from H C ts e (have_each (Below_p p) AnyName ts (tuple_has (Below_p p) AnyName (V.Tuple ts) ts (outs-Tuple ts) h)));
      nominal = λ k ts e h. ap (list_all (is_below p)) (vars-nominal k ts) ∙ all_vars p ts ∙ each_true (vars_below p) ts (each_from H C ts e (have_each (Below_p p) AnyName ts (nominal_has (Below_p p) AnyName (V.Nominal k ts) k ts (outs-Nominal k ts) h).1));
      var = λ v h. ap (list_all (is_below p)) (vars-var v) ∙ both_true (nat_lt v p) true (lt_to v p (var_has (Below_p p) (W.Var v) v (outs-Var v) h)) refl;
    })

-- THE PARENT
settled_head : (n : Table) (ds : List Decl) (t u : Ty) → Settled n t u → is_abstract_parent ds (out-Ty t) ≡ true → is_abstract_parent ds (out-Ty u) ≡ true
settled_head n ds t u (plain a o) h = h
settled_head n ds t u (alone a v o) h = h
settled_head n ds t u (union a b ts us o p q) h = let f : false ≡ true = sym (ap (is_abstract_parent ds) o) ∙ h in cc
settled_head n ds t u (tuple a b ts us o p q) h = let f : false ≡ true = sym (ap (is_abstract_parent ds) o) ∙ h in cc
settled_head n ds t u (nominal a b k ts us o p q) h = ap (is_abstract_parent ds) p ∙ sym (ap (is_abstract_parent ds) o) ∙ h

settled_line : (n : Table) (ls : List (List Ancestor)) (t u : Ty) → Settled n t u → length (line_above ls (out-Ty t)) ≡ length (line_above ls (out-Ty u))
settled_line n ls t u (plain a o) = refl
settled_line n ls t u (alone a v o) = refl
settled_line n ls t u (union a b ts us o p q) = ap (λ z. length (line_above ls z)) o ∙ sym (ap (λ z. length (line_above ls z)) p)
settled_line n ls t u (tuple a b ts us o p q) = ap (λ z. length (line_above ls z)) o ∙ sym (ap (λ z. length (line_above ls z)) p)
settled_line n ls t u (nominal a b k ts us o p q) =
    let L = get_or ls k [] in
    ap (λ z. length (line_above ls z)) o ∙ length-map L (put_under ts) ∙ sym (length-map L (put_under us)) ∙ sym (ap (λ z. length (line_above ls z)) p)

field_parent : (ds : List Decl) (m : ℕ) (t : Ty) → is_abstract_parent ds (out-Ty t) ≡ true → is_placed_field m t ≡ true → is_placed m t ≡ true
field_parent ds m t a p = go (out-Ty t) refl
  where
    go : (x : Ty-F Ty) → out-Ty t ≡ x → is_placed m t ≡ true
    go Any e = ap (is_placed m) (is_any t e) ∙ placed-any m
    go (Union ts) e = let f : false ≡ true = sym (ap (is_abstract_parent ds) e) ∙ a in cc
    go (Tuple ts) e = let f : false ≡ true = sym (ap (is_abstract_parent ds) e) ∙ a in cc
    go (Var v) e = let f : false ≡ true = sym (ap (is_abstract_parent ds) e) ∙ a in cc
    go (Nominal k ts) e =
        let i = is_nominal t k ts e in
        ap (is_placed m) i ∙ placed-nominal m k ts ∙ sym (field-nominal m k ts) ∙ sym (ap (is_placed_field m) i) ∙ p

not_both : (b : Bool) → b ≡ true → b ≡ false → ⊥
not_both b h f = let g : true ≡ false = sym h ∙ f in cc

module _ (ds : List Decl) (d e : Decl) (h : Declared ds) (w : IsWellWritten ds d) (k : IsKept (table_with ds d) d e) where
  abbrev n : Table
  n = table_with ds d

  abbrev m : ℕ
  m = length ds

  law : Lawful n
  law = with_lawful ds d w h

  long : length d.params ≡ length e.params
  long = bounds_long n d.params e.params k.params

  -- known
  names_stay : (i j : ℕ) (xs ys : List Ty) → NameBelow i j xs → Both (Ways (Below n opaque)) xs ys → NameBelow i j ys
  names_stay i j xs ys r b = r

  known_bounds : list_all (is_known m) (bound_types e.params) ≡ true
  known_bounds =
      have_all AnyVar (NameBelow m) (is_known m) (has_known m) (bound_types e.params)
      (bounds_have n law AnyVar (NameBelow m) (names_stay m) d.params e.params k.params (all_have AnyVar (NameBelow m) (is_known m) (known_has m) (bound_types d.params) (bounds_are_known ds d w)))

  known_parent : is_known m e.parent ≡ true
  known_parent = has_known m e.parent (settled_has n law AnyVar (NameBelow m) (names_stay m) d.parent e.parent k.parent (known_has m d.parent (parent_is_known ds d w)))

  known_fields : list_all (is_known (m + own e.kind)) (field_types e.fields) ≡ true
  known_fields =
      let i = m + own d.kind in
      let g = have_all AnyVar (NameBelow i) (is_known i) (has_known i) (field_types e.fields)
      (all_settled_have n law AnyVar (NameBelow i) (names_stay i) (field_types d.fields) (field_types e.fields) k.fields (all_have AnyVar (NameBelow i) (is_known i) (known_has i) (field_types d.fields) (fields_are_known ds d w))) in
      ap (λ z. list_all (is_known (m + own z)) (field_types e.fields)) k.kind ∙ g

  known_e : is_known_decl ds e ≡ true
  known_e = both_true (list_all (is_known m) (bound_types e.params) && is_known m e.parent) (list_all (is_known (m + own e.kind)) (field_types e.fields))
      (both_true (list_all (is_known m) (bound_types e.params)) (is_known m e.parent) known_bounds known_parent) known_fields

  -- a test that is kept
  types_pass : (P : ℕ → Type 0) (R : ℕ → List Ty → Type 0) (p q : Ty → Bool) → ((j : ℕ) (xs ys : List Ty) → R j xs → Both (Ways (Below n opaque)) xs ys → R j ys)
      → ((t : Ty) → p t ≡ true → Has P R t) → ((t : Ty) → Has P R t → q t ≡ true) → list_all p (types_of d) ≡ true → list_all q (types_of e) ≡ true
  types_pass P R p q equal into from c =
      let g = sym (all-types p d) ∙ c in
      let bounds = and_l (list_all p (bound_types d.params)) (p d.parent && list_all p (field_types d.fields)) g in
      let rest = and_r (list_all p (bound_types d.params)) (p d.parent && list_all p (field_types d.fields)) g in
      let parent = and_l (p d.parent) (list_all p (field_types d.fields)) rest in
      let fields = and_r (p d.parent) (list_all p (field_types d.fields)) rest in
      let eb = have_all P R q from (bound_types e.params) (bounds_have n law P R equal d.params e.params k.params (all_have P R p into (bound_types d.params) bounds)) in
      let ep = from e.parent (settled_has n law P R equal d.parent e.parent k.parent (into d.parent parent)) in
      let ef = have_all P R q from (field_types e.fields) (all_settled_have n law P R equal (field_types d.fields) (field_types e.fields) k.fields (all_have P R p into (field_types d.fields) fields)) in
      all-types q e ∙ both_true (list_all q (bound_types e.params)) (q e.parent && list_all q (field_types e.fields)) eb (both_true (q e.parent) (list_all q (field_types e.fields)) ep ef)

  wide_stays : (j : ℕ) (xs ys : List Ty) → Wide (ds ++ d ∷ []) j xs → Both (Ways (Below n opaque)) xs ys → Wide (ds ++ d ∷ []) j ys
  wide_stays j xs ys r b = sym (both_long (Ways (Below n opaque)) xs ys b) ∙ r

  counted_e : list_all (is_counted (ds ++ e ∷ [])) (types_of e) ≡ true
  counted_e =
      types_pass AnyVar (Wide (ds ++ d ∷ [])) (is_counted (ds ++ d ∷ [])) (is_counted (ds ++ e ∷ [])) wide_stays (counted_has (ds ++ d ∷ []))
      (has_counted (ds ++ d ∷ []) (ds ++ e ∷ []) (counts_same ds d e long)) (not_false (list_all (is_counted (ds ++ d ∷ [])) (types_of d)) w.counted)

  variables_e : HasOwnVariables d → HasOwnVariables e
  variables_e v =
      let p = length d.params in
      let c = sym (all_vars p (types_of d)) ∙ v in
      let g = types_pass (Below_p p) AnyName (vars_below p) (vars_below p) (λ j xs ys r b. tt) (vars_has p) (has_vars p) c in
      ap (λ z. list_all (is_below z) (flat_map vars_in (types_of e))) (sym long) ∙ all_vars p (types_of e) ∙ g

  abstract_e : is_abstract_parent ds (out-Ty e.parent) ≡ true
  abstract_e = settled_head n ds d.parent e.parent k.parent (not_false (is_abstract_parent ds (out-Ty d.parent)) w.abstract)

  -- placed
  closed_bounds : (bs cs : List Bound) → Bounds n bs cs → list_all is_closed (bound_types bs) ≡ true → list_all is_closed (bound_types cs) ≡ true
  closed_bounds bs cs bounds_end c = refl
  closed_bounds bs cs (bounds_more b x as_ es l u r) c =
      let rest = and_r (is_closed b.low) (is_closed b.high && list_all is_closed (bound_types as_)) c in
      both_true (is_closed x.low) (is_closed x.high && list_all is_closed (bound_types es)) (form_closed n law b.low x.low (and_l (is_closed b.low) (is_closed b.high && list_all is_closed (bound_types as_)) c) l)
      (both_true (is_closed x.high) (list_all is_closed (bound_types es)) (form_closed n law b.high x.high (and_l (is_closed b.high) (list_all is_closed (bound_types as_)) rest) u)
      (closed_bounds as_ es r (and_r (is_closed b.high) (list_all is_closed (bound_types as_)) rest)))

  settled_placed : (t u : Ty) → Settled n t u → is_known (m + 1) t ≡ true → is_placed_field m t ≡ true → is_placed_field m u ≡ true
  settled_placed t u s i p =
      let r = settled_exists ds d h t i p in
      let same : r.0 ≡ u = settled_same n law t r.0 u r.1 s in
      ap (is_placed_field m) (sym same) ∙ r.2

  all_placed : (ts us : List Ty) → AllSettled n ts us → list_all (is_known (m + 1)) ts ≡ true → list_all (is_placed_field m) ts ≡ true → list_all (is_placed_field m) us ≡ true
  all_placed ts us settled_end i p = refl
  all_placed ts us (settled_more t u vs ws s r) i p =
      both_true (is_placed_field m u) (list_all (is_placed_field m) ws)
      (settled_placed t u s (and_l (is_known (m + 1) t) (list_all (is_known (m + 1)) vs) i) (and_l (is_placed_field m t) (list_all (is_placed_field m) vs) p))
      (all_placed vs ws r (and_r (is_known (m + 1) t) (list_all (is_known (m + 1)) vs) i) (and_r (is_placed_field m t) (list_all (is_placed_field m) vs) p))

  placed_e : is_placed_decl ds e ≡ true
  placed_e =
      let b = closed_bounds d.params e.params k.params (bounds_are_closed ds d w) in
      let p = field_parent ds m e.parent abstract_e (settled_placed d.parent e.parent k.parent (parent_known_next ds d h w) (parent_is_field ds d h w)) in
      let f = all_placed (field_types d.fields) (field_types e.fields) k.fields (own_known ds d w) (fields_are_placed ds d w) in
      both_true (list_all is_closed (bound_types e.params) && is_placed m e.parent) (list_all (is_placed_field m) (field_types e.fields))
      (both_true (list_all is_closed (bound_types e.params)) (is_placed m e.parent) b p) f

  -- what is kept is well written
  pub written_kept : IsWellWritten ds e
  written_kept = record {
    fresh = λ c. w.fresh (subst (Contains (map (λ x. x.name) ds)) k.name c);
    known = not_both (is_known_decl ds e) known_e;
    counted = not_both (list_all (is_counted (ds ++ e ∷ [])) (types_of e)) counted_e;
    abstract = not_both (is_abstract_parent ds (out-Ty e.parent)) abstract_e;
    placed = not_both (is_placed_decl ds e) placed_e;
  }

  lawful_kept : Lawful (table_with ds e)
  lawful_kept = with_lawful ds e written_kept h

  pub again : IsKept (table_with ds e) e e
  again = kept_again ds d e h law lawful_kept (parent_is_known ds d w) k.parent long k

  -- its bounds and arguments without variables are small normal forms
  forms_small : AllWithinLimits (sized_types ds e) → FormLimit ds e → ⊥
  forms_small a (inl (t, c, l)) =
      let f = bounds_again (table_with ds e) e.params again.params t c in
      let q = within_in (types_of e) (within_front (types_of e) (map (λ x. V.Nominal x.name x.args) (ancestors ds e)) a) t (contains_front (bound_types e.params) (e.parent ∷ field_types e.fields) t c) in
      let s = q.nodes in
      let b = l t f in
      omega arith
  forms_small a (inr (g, c, p, l)) =
      let w = within_all_each (types_of e) (within_front (types_of e) (map (λ x. V.Nominal x.name x.args) (ancestors ds e)) a) in
      let q = (each_given (λ z. IsWithinLimits z.ty) (types_of e) (all_within (types_of e) w)) g c in
      let s = q.nodes in
      let f = (each_given (NormalWhereClosed (table_with ds e)) (types_of e) (kept_normal ds e again)) g c p in
      let b = l g.ty (record { normal = f; equal = equal_self (table_with ds e) g.ty }) in
      omega arith

  -- and ready, where its arguments keep the declared bounds
  pub ready : HasOwnVariables d → IsOrdered ds d e → (TooMany ds d → ⊥) → (DuplicateField d → ⊥) → (BoundBroken ds e → ⊥) → IsReady ds e
  ready v o few distinct within = record {
    variables = variables_e v;
    allowed = record {
      fresh = written_kept.fresh;
      known = written_kept.known;
      counted = written_kept.counted;
      abstract = written_kept.abstract;
      placed = written_kept.placed;
      small = λ t. elim t [
        | inl f ↦ f o.within.sized
        | inr b ↦ elim b [ inl f ↦ forms_small o.within.sized f | inr r ↦ r.2 (sizes_same ds e h written_kept e r.0 again r.1 o.within.sized) ]
      ];
      ordered = λ c. o.ordered (crossed_written ds d h w e.params k.params (crossed_kept ds e h written_kept e.params again.params c));
      within = within;
      few = λ t. few (elim t [
        | inl a ↦ inl a
        | inr b ↦ elim b [
          | inl a ↦ inr (inl (subst (λ z. 8 < z) (sym long) a))
          | inr c ↦ elim c [
            | inl a ↦ inr (inr (inl (subst (λ z. 64 < z) fields_long a)))
            | inr a ↦ inr (inr (inr (subst (λ z. 64 < z) (sym (settled_line n (lines_after [] ds) d.parent e.parent k.parent)) a)))
          ]
        ]
      ]);
      distinct = λ t. distinct (subst TwoPlaces k.field_names t);
    };
    normal = again;
  }
    where
      fields_long : length e.fields ≡ length d.fields
      fields_long = sym (length-map e.fields (λ f. f.name)) ∙ ap length k.field_names ∙ length-map d.fields (λ f. f.name)
