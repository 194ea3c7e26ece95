-- Every well written declaration has one kept form.
use Rattle.std.proofs.Common.{◌≡◌, ◌∙◌, sym, ap, subst, refl, ℕ, ◌+◌, ◌<◌, arith, true, false, ◌&&◌, not, nat_eq, List, [], ◌∷◌, ◌++◌, map, length, inl, inr}
use Rattle.std.specs.List.{list_all}
use Rattle.jl_model.specs.declared.ty.Ty.{Ty, out-Ty}
use Rattle.jl_model.specs.declared.ty.Ty.TheOpen.{Ty-F, Any, Union, Tuple, Nominal, Var}
use Rattle.jl_model.specs.declared.ty.Ty.TheViews.{outs-Any, outs-Union, outs-Tuple, outs-Nominal, outs-Var}
use Rattle.jl_model.specs.declared.ty.Ty.TheViews as V
use Rattle.jl_model.specs.declared.ty.Ty.TheVariants as W
use Rattle.jl_model.specs.declared.ty.Bound.{Bound}
use Rattle.jl_model.specs.declared.ty.Field.{Field}
use Rattle.jl_model.specs.declared.ty.Decl.{Decl}
use Rattle.jl_model.specs.declared.ty.DeclKind.TheVariants.{Abstract, Struct}
use Rattle.jl_model.specs.Ancestors.{Ancestor}
use Rattle.jl_model.specs.Subtype.{Table}
use Rattle.jl_model.specs.Counts.{IsWithinLimits}
use Rattle.jl_model.specs.Normal.{IsNormalForm}
use Rattle.jl_model.specs.Valid.{is_known, is_closed}
use Rattle.jl_model.specs.Kept.{field_types, Argument, AllArguments, closed, arguments_end, arguments_more, Settled, AllSettled, plain, variable as alone, union, tuple, nominal, settled_end, settled_more, Bounds, bounds_end, bounds_more, IsKept}
use Rattle.jl_model.specs.Refusals.{Declared, table_with, bound_types, types_of, sized_types, ancestors, own, is_abstract_parent, is_free_of, is_placed, is_placed_field, AllWithinLimits, TypeLimit}
use Rattle.jl_model.proofs.TypeInduction.{Each, by_cases}
use Rattle.jl_model.proofs.FormLemmas.{is_any, is_nominal}
use Rattle.jl_model.proofs.PutLemmas.{and_l, and_r, both_true}
use Rattle.jl_model.proofs.AncestorLemmas.{Lawful, true_each}
use Rattle.jl_model.proofs.TransLemmas.{equal_trans}
use Rattle.jl_model.proofs.NormalLemmas.{normal_same}
use Rattle.jl_model.proofs.KnownLemmas.{Known, union_known, tuple_known, nominal_known}
use Rattle.jl_model.proofs.DeclaredLemmas.{not_false}
use Rattle.jl_types.specs.Form.{IsTooLarge, IsKeptTooLarge}
use Rattle.jl_types.proofs.PartsLemmas.{known_parts, closed_parts, closed-nominal, closed-var, closed-union, closed-tuple}
use Rattle.jl_types.proofs.ExistLemmas.{exists}
use Rattle.jl_types.proofs.KeptOnceLemmas.{settled_same, all_settled_same}
use Rattle.jl_types.proofs.PlaceLemmas.{known_up, free_is_placed}
use Rattle.jl_norm.specs.Refused.{IsWellWritten}
use Rattle.jl_norm.specs.Large.{SomeTooLarge, SomeKeptTooLarge, IsKeptLimit}
use Rattle.jl_norm.proofs.PlaceLemmas.{free-any, free-union, free-tuple, placed-union, placed-tuple, placed-nominal, placed-var, field-any, field-var, field-union, field-tuple, field-nominal, free-nominal}
use Rattle.jl_norm.proofs.PartLemmas.{free_known, form_up, form_down}
use Rattle.jl_norm.proofs.SizeLemmas.{within_front, bounds_within, parent_within}
use Rattle.jl_norm.proofs.KeepLemmas.{with_lawful, argument_nominal, argument_var, parent_is_known, parent_is_placed, bounds_are_known, fields_are_known, fields_are_placed}

-- the parent of a declaration is placed as a field is
pub parent_field : (ds : List Decl) (d : Decl) (m : ℕ) → is_abstract_parent ds (out-Ty d.parent) ≡ true → is_placed m d.parent ≡ true → is_placed_field m d.parent ≡ true
parent_field ds d m a p = go (out-Ty d.parent) refl
  where
    go : (x : Ty-F Ty) → out-Ty d.parent ≡ x → is_placed_field m d.parent ≡ true
    go Any e = ap (is_placed_field m) (is_any d.parent e) ∙ field-any m
    go (Union ts) e = let f : false ≡ true = sym (ap (is_abstract_parent ds) e) ∙ a in cc
    go (Tuple ts) e = let f : false ≡ true = sym (ap (is_abstract_parent ds) e) ∙ a in cc
    go (Var v) e = let f : false ≡ true = sym (ap (is_abstract_parent ds) e) ∙ a in cc
    go (Nominal k ts) e =
        let i = is_nominal d.parent k ts e in
        ap (is_placed_field m) i ∙ field-nominal m k ts ∙ sym (placed-nominal m k ts) ∙ sym (ap (is_placed m) i) ∙ p

-- the fields' types name types below the next number but one
pub own_known : (ds : List Decl) (d : Decl) → IsWellWritten ds d → list_all (is_known (length ds + 1)) (field_types d.fields) ≡ true
own_known ds d w = go d.kind refl
  where
    ups : (ts : List Ty) → list_all (is_known (length ds)) ts ≡ true → list_all (is_known (length ds + 1)) ts ≡ true
    ups [] h = refl
    ups (t ∷ ts) h =
        let p = known_up (length ds) t (and_l (is_known (length ds) t) (list_all (is_known (length ds)) ts) h) in
        let q = ups ts (and_r (is_known (length ds) t) (list_all (is_known (length ds)) ts) h) in
        rw (p, q) refl

    go : (x : _) → d.kind ≡ x → list_all (is_known (length ds + 1)) (field_types d.fields) ≡ true
    go Struct e = sym (ap (λ z. list_all (is_known (length ds + own z)) (field_types d.fields)) e) ∙ fields_are_known ds d w
    go Abstract e =
        let z : length ds + 0 ≡ length ds = omega arith in
        ups (field_types d.fields) (sym (ap (λ z. list_all (is_known z) (field_types d.fields)) z) ∙ sym (ap (λ z. list_all (is_known (length ds + own z)) (field_types d.fields)) e) ∙ fields_are_known ds d w)

-- a type without variables that names types below m is free of m
closed_each : (m : ℕ) (ts : List Ty) → Each (λ t. is_closed t ≡ true → Known m t → is_free_of m t ≡ true) ts → Each (λ t. is_closed t ≡ true) ts → Each (Known m) ts → list_all (is_free_of m) ts ≡ true
closed_each m [] e c k = refl
closed_each m (t ∷ ts) e c k = both_true (is_free_of m t) (list_all (is_free_of m) ts) (e.0 c.0 k.0) (closed_each m ts e.1 c.1 k.1)

pub closed_free : (m : ℕ) (t : Ty) → is_closed t ≡ true → Known m t → is_free_of m t ≡ true
closed_free m = by_cases (λ t. is_closed t ≡ true → Known m t → is_free_of m t ≡ true) (record {
  any = λ c k. free-any m;
  union = λ ts e c k. free-union m ts ∙ closed_each m ts e (true_each is_closed ts (sym (closed-union ts) ∙ c)) (union_known m ts k);
  tuple = λ ts e c k. free-tuple m ts ∙ closed_each m ts e (true_each is_closed ts (sym (closed-tuple ts) ∙ c)) (tuple_known m ts k);
  nominal = λ j ts e c k.
      let a = nominal_known m j ts k in
      free-nominal m j ts ∙ both_true (not (nat_eq j m)) (list_all (is_free_of m) ts) (other j m a.0) (closed_each m ts e (true_each is_closed ts (sym (closed-nominal j ts) ∙ c)) a.1);
  var = λ v c k. let f : false ≡ true = sym (closed-var v) ∙ c in cc;
})
  where
    other : (j m : ℕ) → j < m → not (nat_eq j m) ≡ true
    other j m l = let e : nat_eq j m ≡ false = grind (arith, l) in ap not e

module _ (ds : List Decl) (d : Decl) (h : Declared ds) where
  abbrev m : ℕ
  m = length ds

  abbrev n : Table
  n = table_with ds d

  -- THERE IS ONE
  form_exists : (t : Ty) → is_known m t ≡ true → (u : Ty) × IsNormalForm n t u
  form_exists t k = let e = exists ds h t in (e.0, form_up ds d h t e.0 k (e.1.kept (is_known m) (known_parts m) k) e.1.form)

  pub free_exists : (t : Ty) → is_free_of m t ≡ true → Known (m + 1) t → (u : Ty) × Argument n t u × (is_placed m u ≡ true)
  free_exists t f k =
      let r = free_known m t f k in
      let e = exists ds h t in
      let l = e.1.kept (is_known m) (known_parts m) r.1 in
      (e.0, closed t e.0 r.0 (form_up ds d h t e.0 r.1 l e.1.form), free_is_placed m e.0 (closed_free m e.0 (e.1.kept is_closed closed_parts r.0) l))

  abbrev HasArgument : Ty → Type 0
  HasArgument t = Known (m + 1) t → is_placed m t ≡ true → (u : Ty) × Argument n t u × (is_placed m u ≡ true)

  arguments_exist : (ts : List Ty) → Each HasArgument ts → Each (Known (m + 1)) ts → Each (λ t. is_placed m t ≡ true) ts → (us : List Ty) × AllArguments n ts us × (list_all (is_placed m) us ≡ true)
  arguments_exist [] e k p = ([], arguments_end, refl)
  arguments_exist (t ∷ ts) e k p =
      let r = e.0 k.0 p.0 in
      let s = arguments_exist ts e.1 k.1 p.1 in
      (r.0 ∷ s.0, arguments_more t r.0 ts s.0 r.1 s.1, both_true (is_placed m r.0) (list_all (is_placed m) s.0) r.2 s.2)

  pub argument_exists : (t : Ty) → HasArgument t
  argument_exists = by_cases HasArgument (record {
    any = λ k p. free_exists W.Any (free-any m) k;
    union = λ ts e k p. free_exists (V.Union ts) (free-union m ts ∙ sym (placed-union m ts) ∙ p) k;
    tuple = λ ts e k p. free_exists (V.Tuple ts) (free-tuple m ts ∙ sym (placed-tuple m ts) ∙ p) k;
    nominal = λ j ts e k p.
        let r = arguments_exist ts e (nominal_known (m + 1) j ts k).1 (true_each (is_placed m) ts (sym (placed-nominal m j ts) ∙ p)) in
        (V.Nominal j r.0, argument_nominal n (V.Nominal j ts) j ts r.0 refl (closed-nominal j) r.1, placed-nominal m j r.0 ∙ r.2);
    var = λ v k p. (W.Var v, argument_var n (W.Var v) v refl, placed-var m v);
  })

  each_argument : (ts : List Ty) → Each HasArgument ts
  each_argument [] = tt
  each_argument (t ∷ ts) = (argument_exists t, each_argument ts)

  abbrev HasSettled : Ty → Type 0
  HasSettled t = Known (m + 1) t → is_placed_field m t ≡ true → (u : Ty) × Settled n t u × (is_placed_field m u ≡ true)

  settled_list : (ts : List Ty) → Each HasSettled ts → Each (Known (m + 1)) ts → Each (λ t. is_placed_field m t ≡ true) ts → (us : List Ty) × AllSettled n ts us × (list_all (is_placed_field m) us ≡ true)
  settled_list [] e k p = ([], settled_end, refl)
  settled_list (t ∷ ts) e k p =
      let r = e.0 k.0 p.0 in
      let s = settled_list ts e.1 k.1 p.1 in
      (r.0 ∷ s.0, settled_more t r.0 ts s.0 r.1 s.1, both_true (is_placed_field m r.0) (list_all (is_placed_field m) s.0) r.2 s.2)

  pub settled_exists : (t : Ty) → HasSettled t
  settled_exists = by_cases HasSettled (record {
    any = λ k p. (W.Any, plain W.Any outs-Any, field-any m);
    union = λ ts e k p.
        let r = settled_list ts e (union_known (m + 1) ts k) (true_each (is_placed_field m) ts (sym (field-union m ts) ∙ p)) in
        (V.Union r.0, union (V.Union ts) (V.Union r.0) ts r.0 (outs-Union ts) (outs-Union r.0) r.1, field-union m r.0 ∙ r.2);
    tuple = λ ts e k p.
        let r = settled_list ts e (tuple_known (m + 1) ts k) (true_each (is_placed_field m) ts (sym (field-tuple m ts) ∙ p)) in
        (V.Tuple r.0, tuple (V.Tuple ts) (V.Tuple r.0) ts r.0 (outs-Tuple ts) (outs-Tuple r.0) r.1, field-tuple m r.0 ∙ r.2);
    nominal = λ j ts e k p.
        let r = arguments_exist ts (each_argument ts) (nominal_known (m + 1) j ts k).1 (true_each (is_placed m) ts (sym (field-nominal m j ts) ∙ p)) in
        (V.Nominal j r.0, nominal (V.Nominal j ts) (V.Nominal j r.0) j ts r.0 (outs-Nominal j ts) (outs-Nominal j r.0) r.1, field-nominal m j r.0 ∙ r.2);
    var = λ v k p. (W.Var v, alone (W.Var v) v (outs-Var v), field-var m v);
  })

  bounds_exist : (bs : List Bound) → list_all (is_known m) (bound_types bs) ≡ true → (cs : List Bound) × Bounds n bs cs
  bounds_exist [] k = ([], bounds_end)
  bounds_exist (b ∷ bs) k =
      let more_known = and_r (is_known m b.low) (is_known m b.high && list_all (is_known m) (bound_types bs)) k in
      let l = form_exists b.low (and_l (is_known m b.low) (is_known m b.high && list_all (is_known m) (bound_types bs)) k) in
      let u = form_exists b.high (and_l (is_known m b.high) (list_all (is_known m) (bound_types bs)) more_known) in
      let r = bounds_exist bs (and_r (is_known m b.high) (list_all (is_known m) (bound_types bs)) more_known) in
      (record { low = l.0; high = u.0 } ∷ r.0, bounds_more b (record { low = l.0; high = u.0 }) bs r.0 l.1 u.1 r.1)

  fields_exist : (fs : List Field) → list_all (is_known (m + 1)) (field_types fs) ≡ true → list_all (is_placed_field m) (field_types fs) ≡ true
      → (gs : List Field) × (map (λ f. f.name) gs ≡ map (λ f. f.name) fs) × AllSettled n (field_types fs) (field_types gs)
  fields_exist [] k p = ([], refl, settled_end)
  fields_exist (f ∷ fs) k p =
      let r = settled_exists f.ty (and_l (is_known (m + 1) f.ty) (list_all (is_known (m + 1)) (field_types fs)) k) (and_l (is_placed_field m f.ty) (list_all (is_placed_field m) (field_types fs)) p) in
      let s = fields_exist fs (and_r (is_known (m + 1) f.ty) (list_all (is_known (m + 1)) (field_types fs)) k) (and_r (is_placed_field m f.ty) (list_all (is_placed_field m) (field_types fs)) p) in
      let g : Field = record { name = f.name; ty = r.0 } in
      (g ∷ s.0, ap (λ z. f.name ∷ z) s.1, settled_more f.ty r.0 (field_types fs) (field_types s.0) r.1 s.2)

  module _ (w : IsWellWritten ds d) where
    pub parent_is_field : is_placed_field m d.parent ≡ true
    parent_is_field = parent_field ds d m (not_false (is_abstract_parent ds (out-Ty d.parent)) w.abstract) (parent_is_placed ds d w)

    pub parent_known_next : is_known (m + 1) d.parent ≡ true
    parent_known_next = known_up m d.parent (parent_is_known ds d w)

    pub kept_exists : (e : Decl) × IsKept n d e
    kept_exists =
        let b = bounds_exist d.params (bounds_are_known ds d w) in
        let p = settled_exists d.parent parent_known_next parent_is_field in
        let f = fields_exist d.fields (own_known ds d w) (fields_are_placed ds d w) in (
          record { name = d.name; kind = d.kind; params = b.0; parent = p.0; fields = f.0 },
          record { name = refl; kind = refl; params = b.1; parent = p.1; field_names = f.1; fields = f.2 },
        )

    -- AND NO OTHER
    law : Lawful n
    law = with_lawful ds d w h

    bounds_same : (bs cs es : List Bound) → Bounds n bs cs → Bounds n bs es → bound_types cs ≡ bound_types es
    bounds_same bs cs es bounds_end bounds_end = refl
    bounds_same bs cs es (bounds_more b c as_ xs l u q) (bounds_more a e zs ys k v r) =
        let i : c.low ≡ e.low = normal_same n law c.low l.normal e.low k.normal (equal_trans n law c.low b.low e.low (l.equal.1, l.equal.0) k.equal) in
        let j : c.high ≡ e.high = normal_same n law c.high u.normal e.high v.normal (equal_trans n law c.high b.high e.high (u.equal.1, u.equal.0) v.equal) in
        let s : bound_types xs ≡ bound_types ys = bounds_same as_ xs ys q r in
        cc

    pub sizes_same : (c e : Decl) → IsKept n d c → IsKept n d e → AllWithinLimits (sized_types ds c) → AllWithinLimits (sized_types ds e)
    sizes_same c e k l a =
        let b : bound_types c.params ≡ bound_types e.params = bounds_same d.params c.params e.params k.params l.params in
        let p : c.parent ≡ e.parent = settled_same n law d.parent c.parent e.parent k.parent l.parent in
        let f : field_types c.fields ≡ field_types e.fields = all_settled_same n law (field_types d.fields) (field_types c.fields) (field_types e.fields) k.fields l.fields in
        let t : types_of c ≡ types_of e = ap (λ z. z ++ c.parent ∷ field_types c.fields) b ∙ ap (λ z. bound_types e.params ++ z ∷ field_types c.fields) p ∙ ap (λ z. bound_types e.params ++ e.parent ∷ z) f in
        let s : sized_types ds c ≡ sized_types ds e = ap (λ z. z ++ map (λ x. V.Nominal x.name x.args) (ancestors ds c)) t ∙ ap (λ z. types_of e ++ map (λ x. V.Nominal x.name x.args) (above z)) p in
        subst AllWithinLimits s a
      where
        above : Ty → List Ancestor
        above p = ancestors ds (record d { parent = p })

    -- LIMITS
    bounds_large : (bs cs : List Bound) → list_all (is_known m) (bound_types bs) ≡ true → Bounds n bs cs → SomeTooLarge ds (bound_types bs) → AllWithinLimits (bound_types bs) → AllWithinLimits (bound_types cs) → ⊥
    bounds_large bs cs k bounds_end l a c = absurd l
    bounds_large bs cs k (bounds_more b e as_ es low up r) l a c =
        let more_known = and_r (is_known m b.low) (is_known m b.high && list_all (is_known m) (bound_types as_)) k in
        let low_known = and_l (is_known m b.low) (is_known m b.high && list_all (is_known m) (bound_types as_)) k in
        let high_known = and_l (is_known m b.high) (list_all (is_known m) (bound_types as_)) more_known in
        elim l [
          | inl x ↦ one b.low e.low low_known low x a.0 c.0
          | inr y ↦ elim y [
            | inl x ↦ one b.high e.high high_known up x a.1.0 c.1.0
            | inr z ↦ bounds_large as_ es (and_r (is_known m b.high) (list_all (is_known m) (bound_types as_)) more_known) r z a.1.1 c.1.1
          ]
        ]
      where
        one : (t u : Ty) → is_known m t ≡ true → IsNormalForm n t u → IsTooLarge ds t → IsWithinLimits t → IsWithinLimits u → ⊥
        one t u k f (inl x) p q = x p
        one t u k f (inr x) p q = let big = x u (form_down ds d h law t u k f) in let small = q.nodes in omega arith

    settled_large : (t u : Ty) → Settled n t u → IsKeptTooLarge ds t → IsWithinLimits t → IsWithinLimits u → ⊥
    settled_large t u s (inl x) p q = x p
    settled_large t u s (inr x) p q =
        let r = x d in
        let e : r.0 ≡ u = settled_same n law t r.0 u r.1 s in
        r.2 (subst IsWithinLimits (sym e) q)

    fields_large : (ts us : List Ty) → AllSettled n ts us → SomeKeptTooLarge ds ts → AllWithinLimits ts → AllWithinLimits us → ⊥
    fields_large ts us settled_end l a c = absurd l
    fields_large ts us (settled_more t u vs ws s r) (inl x) a c = settled_large t u s x a.0 c.0
    fields_large ts us (settled_more t u vs ws s r) (inr x) a c = fields_large vs ws r x a.1 c.1

    -- where a type that is kept is too large, so is the kept declaration
    pub limit_kept : AllWithinLimits (types_of d) → IsKeptLimit ds d → TypeLimit ds d
    limit_kept a l =
        let e = kept_exists in
        let b = bounds_within d a in
        let p = parent_within d a in
        inr (inr (
          e.0,
          e.1,
          λ c.
              let types = within_front (types_of e.0) (map (λ x. V.Nominal x.name x.args) (ancestors ds e.0)) c in
              let eb = bounds_within e.0 types in
              let ep = parent_within e.0 types in
              elim l [
                | inl x ↦ bounds_large d.params e.0.params (bounds_are_known ds d w) e.1.params x b eb
                | inr y ↦ elim y [
                  | inl x ↦ settled_large d.parent e.0.parent e.1.parent x p.0 ep.0
                  | inr x ↦ fields_large (field_types d.fields) (field_types e.0.fields) e.1.fields x p.1 ep.1
                ]
              ],
        ))
