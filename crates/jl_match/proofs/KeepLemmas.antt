-- What is kept of a row is a kept row, and stands for it.
use Rattle.std.proofs.Common.{◌≡◌, ◌∙◌, sym, ap, subst, refl, ℕ, zero, suc, ◌+◌, ◌*◌, ◌<◌, ◌%◌, arith, Bool, true, false, nat_eq, List, [], ◌∷◌, map, length, get_or, slice_index_or, ◌⊎◌, inl, inr}
use Rattle.std.specs.List.{flat_map, list_all, list_any, Contains}
use Rattle.std.proofs.lemmas.List.{get_or_past}
use Rattle.jl_model.specs.declared.ty.Ty.{Ty}
use Rattle.jl_model.specs.declared.ty.Ty.TheOpen.{Any, Union, Tuple, Nominal, Var}
use Rattle.jl_model.specs.declared.ty.Ty.TheViews.{out-Ty, outs-Nominal, outs-Var}
use Rattle.jl_model.specs.declared.ty.Ty.TheViews as V
use Rattle.jl_model.specs.declared.ty.Decl.{Decl}
use Rattle.jl_model.specs.declared.ty.Bound.{Bound}
use Rattle.jl_model.specs.declared.ty.Written.{Written}
use Rattle.jl_model.specs.Ancestors.{table_of}
use Rattle.jl_model.specs.Kinds.{Kind, unused, once, diagonal, bound}
use Rattle.jl_model.specs.Rows.{alts, free, width, high, kind, root, atom, vars_in, Stands, Occurs, standing, bounding}
use Rattle.jl_model.specs.Subtype.{Table, at, Equals, Equal, equals_end, equals_more}
use Rattle.jl_model.specs.Signature.{Row, IsRow, top, by_kind, Both, both_end, both_more}
use Rattle.jl_model.specs.Normal.{IsNormal, AllNormal, IsNormalForm, is_single, no_union, none, more, any as normal_any, var as normal_var, nominal as normal_nominal, tuple as normal_tuple}
use Rattle.jl_model.proofs.PutLemmas.{both_true}
use Rattle.jl_model.specs.Valid.{is_closed}
use Rattle.jl_model.specs.Refusals.{Declared, bound_types}
use Rattle.jl_model.proofs.FormLemmas.{is_any, is_tuple, is_nominal, is_var, alts-nominal, vars-tuple, vars-nominal}
use Rattle.jl_model.proofs.SelfLemmas.{equal_self}
use Rattle.jl_model.proofs.TransLemmas.{equal_trans}
use Rattle.jl_model.proofs.NormalLemmas.{In as Among, first as among_first, later as among_later, normal_same}
use Rattle.jl_model.proofs.DeclaredLemmas.{declared_lawful}
use Rattle.jl_types.specs.Form.{Settles, AllSettle, any, var, union, tuple, nominal, none as settle_none, more as settle_more}
use Rattle.jl_types.proofs.SettleLemmas.{settles_equal}
use Rattle.jl_types.proofs.KeepLemmas.{nominal_form}
use Rattle.jl_types.proofs.ExistLemmas.{exists}
use Rattle.jl_types.proofs.PartsLemmas.{closed_parts}
use Rattle.jl_model.specs.Found.{inner, outer}
use Rattle.jl_match.specs.KeptRow.{IsArgument, AreArguments, closed, variable, applied, arguments_end, arguments_more, IsPart, AreParts, any as part_any, variable as part_var, tuple as part_tuple, nominal as part_nominal, parts_end, parts_more, IsNamedTop, IsKeptTop, top_plain, top_named, top_idle, IsKeptRow, row_of, with_bounds, IsPlainForm, IsNamedForm, IsKeptBound, AreKept, StandsFor}
use Rattle.jl_search.specs.Serving.{IsPlain}
use Rattle.jl_search.specs.Occurring.{IsInOrder}
use Rattle.jl_search.specs.Open.{EachVar, IsOpen, AreOpen, open_end, open_more, closed as open_closed, variable as open_var, applied as open_nominal}
use Rattle.jl_sig.proofs.OwnLemmas.{own_parts}
use Rattle.jl_match.proofs.ListLemmas.{In, in_of, of_in, in_either, in_each, each_of, any_in, in_any}
use Rattle.jl_search.proofs.FindLemmas as L
use Rattle.jl_search.proofs.EqualLemmas.{nominals, turned}
use Rattle.jl_match.proofs.KindLemmas.{Inner, comps, own_only, bound_in, same_kind}
use Rattle.jl_match.proofs.RowLemmas.{below_or, low_of}
use Rattle.jl_match.proofs.RowForms.{IsHigh, Place, Form, form_any, form_var, form_tuple, form_nominal, Forms, forms_end, forms_more, row_forms, only}

among_at : (xs : List Ty) (x : Ty) (k : ℕ) → k < length xs → slice_index_or xs k x ≡ x → Among x xs
among_at [] x k h e = absurd (omega arith)
among_at (y ∷ ys) x zero h e = among_first y ys (sym e)
among_at (y ∷ ys) x (suc k) h e = among_later y ys (among_at ys x k (omega arith) e)

module _ (ds : List Decl) (declared : Declared ds) where
  abbrev n : Table
  n = table_of ds

  -- the normal form of an argument is an argument over the same variables
  pub record Kept (t u : Ty) : Type 0 where
    pub form : IsNormalForm n t u
    pub argument : IsArgument n u
    pub vars : vars_in u ≡ vars_in t

  pub record AllKept (ts us : List Ty) : Type 0 where
    pub normal : AllNormal n us
    pub equal : Equals n us ts
    pub arguments : AreArguments n us
    pub vars : flat_map vars_in us ≡ flat_map vars_in ts

  closed_of : (t : Ty) → vars_in t ≡ [] → is_closed t ≡ true
  closed_of t e = ap (λ ns. nat_eq (length ns) 0) e

  none_of : (ns : List ℕ) → nat_eq (length ns) 0 ≡ true → ns ≡ []
  none_of [] h = refl
  none_of (k ∷ ks) h = let e : length (k ∷ ks) ≡ 0 = grind (arith, h) in absurd (omega arith)

  mutual
    kept_of : (t : Ty) → IsOpen t → (u : Ty) × Kept t u
    kept_of t (open_closed a e) =
        let r = exists ds declared t in
        let c : vars_in r.0 ≡ [] = none_of (vars_in r.0) (r.1.kept is_closed closed_parts (closed_of t e)) in
        (r.0, record { form = r.1.form; argument = closed r.0 c r.1.form.normal; vars = c ∙ sym e })
    kept_of t (open_var a v o) = (t, record { form = record { normal = normal_var t v o; equal = equal_self n t }; argument = variable t v o; vars = refl })
    kept_of t (open_nominal a k ts o p) =
        let r = all_kept ts p in
        let u = V.Nominal k r.0 in
        let i = is_nominal t k ts o in (
          u,
          record {
            form = record { normal = normal_nominal u k r.0 (outs-Nominal k r.0) r.1.normal; equal = subst (λ z. Equal n z u) (sym i) (nominals n k ts r.0 (turned n r.0 ts r.1.equal)) };
            argument = applied u k r.0 (outs-Nominal k r.0) r.1.arguments;
            vars = vars-nominal k r.0 ∙ r.1.vars ∙ sym (ap vars_in i ∙ vars-nominal k ts);
          },
        )

    all_kept : (ts : List Ty) → AreOpen ts → (us : List Ty) × AllKept ts us
    all_kept ts open_end = ([], record { normal = none; equal = equals_end; arguments = arguments_end; vars = refl })
    all_kept ts (open_more t ws p q) =
        let r = kept_of t p in
        let s = all_kept ws q in
        let a = r.1.vars in
        let b = s.1.vars in (
          r.0 ∷ s.0,
          record {
            normal = more r.0 s.0 r.1.form.normal s.1.normal;
            equal = equals_more r.0 t s.0 ws r.1.form.equal.1 r.1.form.equal.0 s.1.equal;
            arguments = arguments_more r.0 s.0 r.1.argument s.1.arguments;
            vars = cc;
          },
        )

  form_kept : (t u : Ty) → IsOpen t → IsNormalForm n t u → Kept t u
  form_kept t u p f =
      let r = kept_of t p in
      let law = declared_lawful ds declared in
      let e : r.0 ≡ u = normal_same n law r.0 r.1.form.normal u f.normal (equal_trans n law r.0 t u (r.1.form.equal.1, r.1.form.equal.0) f.equal) in
      subst (Kept t) e r.1

  -- what is kept of a part
  pub record KeptPart (s : Written) (t u : Ty) : Type 0 where
    pub part : IsPart n u
    pub normal : IsNormal n u
    pub single : is_single u ≡ true
    pub vars : vars_in u ≡ vars_in t
    pub inner : (v : ℕ) → In v (inner u) → Inner s v
    pub outer : (w : ℕ) → In w (outer u) → Place s w

  pub record KeptParts (s : Written) (ts us : List Ty) : Type 0 where
    pub parts : AreParts n us
    pub normal : AllNormal n us
    pub single : list_all is_single us ≡ true
    pub vars : flat_map vars_in us ≡ flat_map vars_in ts
    pub inner : (v : ℕ) → In v (flat_map inner us) → Inner s v
    pub outer : (w : ℕ) → In w (flat_map outer us) → Place s w

  kept_args : (ts us : List Ty) → AreOpen ts → Both (IsNormalForm n) ts us → AreArguments n us × (flat_map vars_in us ≡ flat_map vars_in ts) × AllNormal n us
  kept_args ts us open_end both_end = (arguments_end, refl, none)
  kept_args ts us (open_more t ws p q) (both_more a b as_ bs f g) =
      let r = form_kept t b p f in
      let z = kept_args ws bs q g in
      let x = r.vars in
      let y = z.1 in
      (arguments_more b bs r.argument z.0, cc, more b bs f.normal z.2)

  module _ (s : Written) where
    only_place : (w v : ℕ) → Place s v → In w (v ∷ []) → Place s w
    only_place w v p (inl e) = subst (Place s) (sym e) p
    only_place w v p (inr i) = absurd i

    any_part : (t : Ty) → out-Ty t ≡ Any → KeptPart s t t
    any_part t o =
        let i = is_any t o in
        record {
          part = part_any t o;
          normal = normal_any t o;
          single = ap no_union o;
          vars = refl;
          inner = λ v j. absurd (subst (In v) (ap inner i ∙ L.inner-any) j);
          outer = λ v j. absurd (subst (In v) (ap outer i ∙ L.outer-any) j);
        }

    var_part : (t : Ty) (w : ℕ) → out-Ty t ≡ Var w → Place s w → KeptPart s t t
    var_part t w o p =
        let i = is_var t w o in
        record {
          part = part_var t w o;
          normal = normal_var t w o;
          single = ap no_union o;
          vars = refl;
          inner = λ v j. absurd (subst (In v) (ap inner i ∙ L.inner-var w) j);
          outer = λ v j. only_place v w p (subst (In v) (ap outer i ∙ L.outer-var w) j);
        }

    tuple_part : (t u : Ty) (ts us : List Ty) → out-Ty t ≡ Tuple ts → out-Ty u ≡ Tuple us → KeptParts s ts us → KeptPart s t u
    tuple_part t u ts us o f h =
        let i = is_tuple u us f in
        record {
          part = part_tuple u us f h.parts;
          normal = normal_tuple u us f h.normal h.single;
          single = ap no_union f;
          vars = ap vars_in i ∙ vars-tuple us ∙ h.vars ∙ sym (ap vars_in (is_tuple t ts o) ∙ vars-tuple ts);
          inner = λ v j. h.inner v (subst (In v) (ap inner i ∙ L.inner-tuple us) j);
          outer = λ v j. h.outer v (subst (In v) (ap outer i ∙ L.outer-tuple us) j);
        }

    nominal_part : (t u : Ty) (j k : ℕ) (ts us : List Ty) → out-Ty t ≡ Nominal j ts → out-Ty u ≡ Nominal k us → EachVar (Inner s) (flat_map vars_in ts) → AreArguments n us × (flat_map vars_in us ≡ flat_map vars_in ts) × AllNormal n us → KeptPart s t u
    nominal_part t u j k ts us o f q h =
        let i = is_nominal u k us f in
        record {
          part = part_nominal u k us f h.0;
          normal = normal_nominal u k us f h.2;
          single = ap no_union f;
          vars = ap vars_in i ∙ vars-nominal k us ∙ h.1 ∙ sym (ap vars_in (is_nominal t j ts o) ∙ vars-nominal j ts);
          inner = λ v x. in_each (Inner s) (flat_map vars_in ts) q v (subst (In v) h.1 (subst (In v) (ap inner i ∙ L.inner-nominal k us) x));
          outer = λ v x. absurd (subst (In v) (ap outer i ∙ L.outer-nominal k us) x);
        }

    join : (t u : Ty) (ts us : List Ty) → KeptPart s t u → KeptParts s ts us → KeptParts s (t ∷ ts) (u ∷ us)
    join t u ts us p q =
        let x = p.vars in
        let y = q.vars in
        record {
          parts = parts_more u us p.part q.parts;
          normal = more u us p.normal q.normal;
          single = both_true (is_single u) (list_all is_single us) p.single q.single;
          vars = cc;
          inner = λ v i. elim (in_either v (inner u) (flat_map inner us) i) [ inl j ↦ p.inner v j | inr j ↦ q.inner v j ];
          outer = λ v i. elim (in_either v (outer u) (flat_map outer us) i) [ inl j ↦ p.outer v j | inr j ↦ q.outer v j ];
        }

    mutual
      pub part_kept : (t : Ty) → Form s t → (u : Ty) → Settles (IsNormalForm n) t u → KeptPart s t u
      part_kept t (form_any a o) u (any b e) = any_part t o
      part_kept t (form_any a o) u (var b v e) = let f : Any ≡ Var v = sym o ∙ e in cc
      part_kept t (form_any a o) u (union b c ts us e f h) = let g : Any ≡ Union ts = sym o ∙ e in cc
      part_kept t (form_any a o) u (tuple b c ts us e f h) = let g : Any ≡ Tuple ts = sym o ∙ e in cc
      part_kept t (form_any a o) u (nominal b c k ts us e f h) = let g : Any ≡ Nominal k ts = sym o ∙ e in cc
      part_kept t (form_var a w o p) u (any b e) = let f : Var w ≡ Any = sym o ∙ e in cc
      part_kept t (form_var a w o p) u (var b v e) = var_part t w o p
      part_kept t (form_var a w o p) u (union b c ts us e f h) = let g : Var w ≡ Union ts = sym o ∙ e in cc
      part_kept t (form_var a w o p) u (tuple b c ts us e f h) = let g : Var w ≡ Tuple ts = sym o ∙ e in cc
      part_kept t (form_var a w o p) u (nominal b c k ts us e f h) = let g : Var w ≡ Nominal k ts = sym o ∙ e in cc
      part_kept t (form_tuple a qs o p) u (any b e) = let f : Tuple qs ≡ Any = sym o ∙ e in cc
      part_kept t (form_tuple a qs o p) u (var b v e) = let f : Tuple qs ≡ Var v = sym o ∙ e in cc
      part_kept t (form_tuple a qs o p) u (union b c ts us e f h) = let g : Tuple qs ≡ Union ts = sym o ∙ e in cc
      part_kept t (form_tuple a qs o p) u (nominal b c k ts us e f h) = let g : Tuple qs ≡ Nominal k ts = sym o ∙ e in cc
      part_kept t (form_tuple a qs o p) u (tuple b c ts us e f h) =
          let g : Tuple qs ≡ Tuple ts = sym o ∙ e in
          let x : ts ≡ qs = cc in
          tuple_part t u qs us o f (all_settle_kept qs p us (subst (λ z. AllSettle (IsNormalForm n) z us) x h))
      part_kept t (form_nominal a j qs o p q) u (any b e) = let f : Nominal j qs ≡ Any = sym o ∙ e in cc
      part_kept t (form_nominal a j qs o p q) u (var b v e) = let f : Nominal j qs ≡ Var v = sym o ∙ e in cc
      part_kept t (form_nominal a j qs o p q) u (union b c ts us e f h) = let g : Nominal j qs ≡ Union ts = sym o ∙ e in cc
      part_kept t (form_nominal a j qs o p q) u (tuple b c ts us e f h) = let g : Nominal j qs ≡ Tuple ts = sym o ∙ e in cc
      part_kept t (form_nominal a j qs o p q) u (nominal b c k ts us e f h) =
          let g : Nominal j qs ≡ Nominal k ts = sym o ∙ e in
          let x : ts ≡ qs = cc in
          nominal_part t u j k qs us o f q (kept_args qs us p (subst (λ z. Both (IsNormalForm n) z us) x h))

      all_settle_kept : (ts : List Ty) → Forms s ts → (us : List Ty) → AllSettle (IsNormalForm n) ts us → KeptParts s ts us
      all_settle_kept ts forms_end us settle_none = record { parts = parts_end; normal = none; single = refl; vars = refl; inner = λ v i. absurd i; outer = λ w i. absurd i }
      all_settle_kept ts (forms_more t ws p q) us (settle_more a u as_ vs h k) = join t u ws vs (part_kept t p u h) (all_settle_kept ws q vs k)

    all_parts_kept : (ts : List Ty) → Forms s ts → (us : List Ty) → Both (Settles (IsNormalForm n)) ts us → KeptParts s ts us
    all_parts_kept ts forms_end us both_end = record { parts = parts_end; normal = none; single = refl; vars = refl; inner = λ v i. absurd i; outer = λ w i. absurd i }
    all_parts_kept ts (forms_more t ws p q) us (both_more a u as_ vs h k) = join t u ws vs (part_kept t p u h) (all_parts_kept ws q vs k)

  -- settled parts are equal
  pub settled_equal : (t u : Ty) → Settles (IsNormalForm n) t u → Equal n t u
  settled_equal = settles_equal n (IsNormalForm n) (λ t u f. f.equal) (λ t. Unit {0}) (record { any = tt; var = λ v. tt; nominal = λ k ts us b. tt; tuple = λ us e. tt })

  both_equal : (ts us : List Ty) → Both (Settles (IsNormalForm n)) ts us → Both (Equal n) ts us
  both_equal ts us both_end = both_end
  both_equal ts us (both_more t u ws vs h k) = both_more t u ws vs (settled_equal t u h) (both_equal ws vs k)

  -- the normal form of a bound that mentions variables
  named_form : (v : ℕ) (b c : Bound) (m : IsNamedForm ds v b c) → IsNormalForm n b.high c.high
  named_form v b c m =
      subst (λ z. IsNormalForm n z c.high) (sym m.is_high)
      (subst (IsNormalForm n (V.Nominal m.number m.args)) (sym m.kept_high) (nominal_form n m.number m.args m.forms m.settled))

  settled_form : (k : ℕ) (ts : List Ty) (t u : Ty) → t ≡ V.Nominal k ts → Settles (IsNormalForm n) t u → IsNormalForm n t u
  settled_form k ts t u e (any x o) = let f : Nominal k ts ≡ Any = sym (ap out-Ty e ∙ outs-Nominal k ts) ∙ o in cc
  settled_form k ts t u e (var x w o) = let f : Nominal k ts ≡ Var w = sym (ap out-Ty e ∙ outs-Nominal k ts) ∙ o in cc
  settled_form k ts t u e (union x y qs ws o f h) = let g : Nominal k ts ≡ Union qs = sym (ap out-Ty e ∙ outs-Nominal k ts) ∙ o in cc
  settled_form k ts t u e (tuple x y qs ws o f h) = let g : Nominal k ts ≡ Tuple qs = sym (ap out-Ty e ∙ outs-Nominal k ts) ∙ o in cc
  settled_form k ts t u e (nominal x y j qs ws o f h) =
      subst (λ z. IsNormalForm n z u) (sym (is_nominal t j qs o)) (subst (IsNormalForm n (V.Nominal j qs)) (sym (is_nominal u j ws f)) (nominal_form n j qs ws h))

  -- there is one normal form
  same_form : (t u w : Ty) → IsNormal n u → Equal n t u → IsNormalForm n t w → u ≡ w
  same_form t u w p e f =
      let law = declared_lawful ds declared in
      normal_same n law u p w f.normal (equal_trans n law u t w (e.1, e.0) f.equal)

  pub settled_named : (v : ℕ) (b c : Bound) (m : IsNamedForm ds v b c) (u : Ty) → Settles (IsNormalForm n) b.high u → u ≡ c.high
  settled_named v b c m u h =
      let f = settled_form m.number m.args b.high u m.is_high h in
      same_form b.high u c.high f.normal f.equal (named_form v b c m)

  -- what is kept of bounds has the same variables
  named_args : (v : ℕ) (b c : Bound) (m : IsNamedForm ds v b c) → AreArguments n m.forms × (flat_map vars_in m.forms ≡ flat_map vars_in m.args) × AllNormal n m.forms
  named_args v b c m = kept_args m.args m.forms m.opened m.settled

  written_vars : (v : ℕ) (b c : Bound) (m : IsNamedForm ds v b c) → vars_in b.high ≡ flat_map vars_in m.args
  written_vars v b c m = ap vars_in m.is_high ∙ vars-nominal m.number m.args

  kept_vars : (v : ℕ) (b c : Bound) (m : IsNamedForm ds v b c) → vars_in c.high ≡ flat_map vars_in m.args
  kept_vars v b c m = ap vars_in m.kept_high ∙ vars-nominal m.number m.forms ∙ (named_args v b c m).1

  bound_vars : (v : ℕ) (b c : Bound) → IsKeptBound ds v b c → (vars_in c.low ≡ vars_in b.low) × (vars_in c.high ≡ vars_in b.high)
  bound_vars v b c k = (k.low.plain.closed ∙ sym k.low.closed, upper k.high)
    where
      upper : IsPlainForm ds b.high c.high ⊎ IsNamedForm ds v b c → vars_in c.high ≡ vars_in b.high
      upper (inl p) = p.plain.closed ∙ sym p.closed
      upper (inr m) = kept_vars v b c m ∙ sym (written_vars v b c m)

  bounds_vars : (j : ℕ) (bs cs : List Bound) → length cs ≡ length bs → ((v : ℕ) → v < length bs → IsKeptBound ds (j + v) (get_or bs v free) (get_or cs v free))
      → flat_map vars_in (bound_types cs) ≡ flat_map vars_in (bound_types bs)
  bounds_vars j [] [] e h = refl
  bounds_vars j [] (c ∷ cs) e h = absurd (let f : suc (length cs) ≡ 0 = e in omega (arith, f))
  bounds_vars j (b ∷ bs) [] e h = absurd (let f : 0 ≡ suc (length bs) = e in omega (arith, f))
  bounds_vars j (b ∷ bs) (c ∷ cs) e h =
      let z = bound_vars (j + 0) b c (h 0 (omega arith)) in
      let x = z.0 in
      let y = z.1 in
      let r = bounds_vars (j + 1) bs cs (omega (arith, e)) (λ v l. (let f : j + suc v ≡ j + 1 + v = omega arith in subst (λ i. IsKeptBound ds i (get_or bs v free) (get_or cs v free)) f (h (suc v) (omega (arith, l))))) in
      rw (x, y, r) refl

  pub kept_kinds : (s : Written) (bs : List Bound) → length bs ≡ width s → ((v : ℕ) → v < width s → IsKeptBound ds v (get_or s.vars v free) (get_or bs v free)) → (v : ℕ) → kind (with_bounds s bs) v ≡ kind s v
  kept_kinds s bs long h =
      same_kind s bs (bounds_vars 0 s.vars bs long (λ v l. (let e : v ≡ 0 + v = omega arith in subst (λ i. IsKeptBound ds i (get_or s.vars v free) (get_or bs v free)) e (h v l))))

  module _ (s : Written) (bs : List Bound) (bounds : (v : ℕ) → v < width s → IsKeptBound ds v (get_or s.vars v free) (get_or bs v free)) where
    named_high : (v : ℕ) → v < width s → IsPlainForm ds (high s v) (get_or bs v free).high ⊎ IsNamedForm ds v (get_or s.vars v free) (get_or bs v free) → IsHigh s v
    named_high v l (inl p) = inl p.closed
    named_high v l (inr m) = inr (record {
      number = m.number;
      args = m.args;
      is_high = m.is_high;
      opened = m.opened;
      inside = each_of (Inner s) (flat_map vars_in m.args) (λ w i. (
        (let b = m.before w (of_in (flat_map vars_in m.args) w i) in omega (arith, b, l)),
        bound_in s w v (subst (In w) (sym (written_vars v (get_or s.vars v free) (get_or bs v free) m)) i),
      ));
    })

    pub is_high : (v : ℕ) → v < width s → IsHigh s v
    is_high v l = named_high v l (bounds v l).high

  module _ (s : Written) (r : Row) (bs : List Bound) (us vs : List Ty) (row : IsRow n s r) (kept : AreKept ds s r bs us vs) where
    abbrev t : Written
    t = with_bounds s bs

    abbrev B : ℕ → Bound
    B v = get_or s.vars v free

    abbrev C : ℕ → Bound
    C v = get_or bs v free

    parts : KeptParts s r.parts us
    parts = all_parts_kept s r.parts (row_forms s (is_high s bs kept.bounds) (comps s (own_parts s kept.own) kept.placed) r.parts row.parts) us kept.parts

    -- the signature with the kept bounds has the same variables
    roots : (w : ℕ) → root t w ≡ root s w
    roots w = ap (λ m. w % m) kept.long

    kinds : (v : ℕ) → kind t v ≡ kind s v
    kinds = kept_kinds s bs kept.long kept.bounds

    below_width : (v : ℕ) → v < width t → v < width s
    below_width v l = omega (arith, l, kept.long)

    atoms_same : (v : ℕ) → atom s v 0 ≡ atom t v 0
    atoms_same v = ap (λ m. v + m * (0 + 1)) (sym kept.long)

    same_roots : map (root s) (flat_map vars_in r.parts) ≡ map (root t) (flat_map vars_in us)
    same_roots = ap (λ m. map (λ w. w % m) (flat_map vars_in r.parts)) (sym kept.long) ∙ ap (map (root t)) (sym parts.vars)

    moved : (v : ℕ) → Stands s v r.parts → Stands t v us
    moved v o = subst (λ ns. Contains ns v) same_roots o

    back : (v : ℕ) → Stands t v us → Stands s v r.parts
    back v o = subst (λ ns. Contains ns v) (sym same_roots) o

    -- a diagonal variable in the row, or not
    stands_or : (v : ℕ) → Stands s v r.parts ⊎ (Stands s v r.parts → ⊥)
    stands_or v = pick (list_any (nat_eq v) ns) refl
      where
        ns : List ℕ
        ns = map (root s) (flat_map vars_in r.parts)

        pick : (b : Bool) → list_any (nat_eq v) ns ≡ b → Stands s v r.parts ⊎ (Stands s v r.parts → ⊥)
        pick true e = inl (of_in ns v (any_in v ns e))
        pick false e = inr (λ c. let g : true ≡ false = sym (in_any v ns (in_of ns v c)) ∙ e in cc)

    -- what a diagonal variable of the row takes for a bound with variables is this bound
    taken : (v : ℕ) (m : IsNamedForm ds v (B v) (C v)) → kind s v ≡ diagonal → Stands s v r.parts → IsNormal n (at vs v) → at vs v ≡ (C v).high
    taken v m d o p =
        let c = (row.chosen v d o).0 in
        let i : Among (r.chosen v) (V.Nominal m.number m.args ∷ []) = subst (Among (r.chosen v)) (ap alts m.is_high ∙ alts-nominal m.number m.args) (among_at (alts (high s v)) (r.chosen v) c.0 c.1 c.2) in
        let e : r.chosen v ≡ (B v).high = only (r.chosen v) (V.Nominal m.number m.args) i ∙ sym m.is_high in
        same_form (B v).high (at vs v) (C v).high p (subst (λ z. Equal n z (at vs v)) e (kept.chosen v d o)) (named_form v (B v) (C v) m)

    by_kind_is : (v : ℕ) (k : Kind) → kind t v ≡ k → (k ≡ diagonal → at vs v ≡ (C v).high) → by_kind k (at vs v) (C v).high ≡ (C v).high
    by_kind_is v unused e h = refl
    by_kind_is v once e h = refl
    by_kind_is v diagonal e h = h refl
    by_kind_is v bound e h = refl

    by_kind_plain : (v : ℕ) (k : Kind) → v < width s → IsPlain ds (C v).high → IsPlain ds (by_kind k (at vs v) (C v).high)
    by_kind_plain v unused l p = p
    by_kind_plain v once l p = p
    by_kind_plain v diagonal l p = elim (kept.plain v l) [ inl q ↦ q | inr e ↦ subst (IsPlain ds) (sym e) p ]
    by_kind_plain v bound l p = p

    -- an atom of a bound with variables
    atom_is : (v : ℕ) (m : IsNamedForm ds v (B v) (C v)) (w : ℕ) → Contains (flat_map outer us) w → root t w ≡ v → kind t v ≡ bound → w ≡ atom t v 0
    atom_is v m w c e b = pick (parts.outer w (in_of (flat_map outer us) w c)).1
      where
        rooted : root s w ≡ v
        rooted = sym (roots w) ∙ e

        one : length (alts (high s v)) ≡ 1
        one = ap length (ap alts m.is_high ∙ alts-nominal m.number m.args)

        pick : ((kind s w ≡ diagonal) × (root s w ≡ w)) ⊎ ((kind s (root s w) ≡ bound) × ((i : ℕ) × (i < length (alts (high s (root s w)))) × (w ≡ atom s (root s w) i))) → w ≡ atom t v 0
        pick (inl d) = let f : diagonal ≡ bound = sym d.0 ∙ ap (kind s) (sym d.1 ∙ rooted) ∙ sym (kinds v) ∙ b in cc
        pick (inr (d, (i, l, f))) =
            let z : i ≡ 0 = (let k : i < length (alts (high s v)) = subst (λ x. i < length (alts (high s x))) rooted l in omega (arith, k, one)) in
            f ∙ ap (λ x. atom s x i) rooted ∙ ap (atom s v) z ∙ atoms_same v

    named_top : (v : ℕ) (m : IsNamedForm ds v (B v) (C v)) → top t (row_of us vs) v ≡ (C v).high → IsNamedTop ds t (row_of us vs) v
    named_top v m e =
        let a = named_args v (B v) (C v) m in
        record {
          number = m.number;
          args = m.forms;
          high_is = m.kept_high;
          top_is = e;
          low_is = m.kept_low;
          arguments = a.0;
          known = m.known;
          before = λ w c. m.before w (subst (λ ns. Contains ns w) a.1 c);
          kinds = λ w c. kinds w ∙ bound_in s w v (subst (In w) (sym (written_vars v (B v) (C v) m)) (in_of (flat_map vars_in m.args) w (subst (λ ns. Contains ns w) a.1 c)));
          atom_is = atom_is v m;
        }

    named_at : (v : ℕ) (m : IsNamedForm ds v (B v) (C v)) → (k : Kind) → kind t v ≡ k → (k ≡ diagonal → at vs v ≡ (C v).high) → IsKeptTop ds t (row_of us vs) v
    named_at v m k e h = top_named v (named_top v m (ap (λ z. by_kind z (at vs v) (C v).high) e ∙ by_kind_is v k e h))

    diagonal_at : (v : ℕ) → (m : IsNamedForm ds v (B v) (C v)) → kind t v ≡ diagonal → IsPlain ds (at vs v) ⊎ (at vs v ≡ (C v).high) → IsKeptTop ds t (row_of us vs) v
    diagonal_at v m d (inr e) = named_at v m diagonal d (λ z. e)
    diagonal_at v m d (inl p) = elim (stands_or v) [
      | inl o ↦ named_at v m diagonal d (λ z. taken v m (sym (kinds v) ∙ d) o p.normal)
      | inr o ↦ top_idle v d (λ c. o (back v c)) (subst (λ k. IsPlain ds (by_kind k (at vs v) (C v).high)) (sym d) p) m.known
    ]

    kept_top : (v : ℕ) → v < width s → (k : Kind) → kind t v ≡ k → IsPlainForm ds (high s v) (C v).high ⊎ IsNamedForm ds v (B v) (C v) → IsKeptTop ds t (row_of us vs) v
    kept_top v l k e (inl p) = top_plain v p.plain (by_kind_plain v (kind t v) l p.plain)
    kept_top v l unused e (inr m) = named_at v m unused e (λ d. let f : unused ≡ diagonal = d in cc)
    kept_top v l once e (inr m) = named_at v m once e (λ d. let f : once ≡ diagonal = d in cc)
    kept_top v l bound e (inr m) = named_at v m bound e (λ d. let f : bound ≡ diagonal = d in cc)
    kept_top v l diagonal e (inr m) = diagonal_at v m e (kept.plain v l)

    in_order : IsInOrder t
    in_order v w l c = pick (kept.bounds v (below_width v l)).high
      where
        pick : IsPlainForm ds (high s v) (C v).high ⊎ IsNamedForm ds v (B v) (C v) → w < v
        pick (inl p) = absurd (subst (In w) p.plain.closed (in_of (vars_in (C v).high) w c))
        pick (inr m) = m.before w (subst (λ ns. Contains ns w) (kept_vars v (B v) (C v) m) c)

    place_moved : (w : ℕ) → Place s w → (root t w < width t) × (((kind t w ≡ diagonal) × (root t w ≡ w)) ⊎ (kind t (root t w) ≡ bound))
    place_moved w p =
        let e = roots w in
        (rw e (omega (arith, p.0, kept.long)), elim p.1 [ inl d ↦ inl (kinds w ∙ d.0, e ∙ d.1) | inr b ↦ inr (kinds (root t w) ∙ ap (kind s) e ∙ b.0) ])

    pub kept_row : IsKeptRow ds t (row_of us vs)
    kept_row = record {
      own = λ v l. kinds v ∙ own_only s kept.own v (omega (arith, l, kept.long));
      parts = parts.parts;
      invariant = λ v c. let h = parts.inner v (in_of (flat_map inner us) v c) in (omega (arith, h.0, kept.long), kinds v ∙ h.1);
      covariant = λ w c. place_moved w (parts.outer w (in_of (flat_map outer us) w c));
      low = λ v l. (kept.bounds v (below_width v l)).low.plain;
      top = λ v l. kept_top v (below_width v l) (kind t v) refl (kept.bounds v (below_width v l)).high;
      before = in_order;
    }

    -- the same variables occur
    high_vars : (w : ℕ) → vars_in (high t w) ≡ vars_in (high s w)
    high_vars w = elim (below_or w (width s)) [
      | inl l ↦ (bound_vars w (B w) (C w) (kept.bounds w l)).1
      | inr g ↦ ap (λ (z : Bound). vars_in z.high) (get_or_past bs w free (omega (arith, g, kept.long)) ∙ sym (get_or_past s.vars w free g))
    ]

    stays : (v : ℕ) (ws : List Ty) → ws ≡ r.parts → Occurs s v ws → Occurs t v us
    stays v ws e (standing x y c) = standing v us (moved v (subst (λ z. Stands s v z) e c))
    stays v ws e (bounding x w y o c) = bounding v w us (stays w ws e o) (subst (λ ns. Contains ns v) (sym (high_vars w)) c)

    comes : (v : ℕ) (ws : List Ty) → ws ≡ us → Occurs t v ws → Occurs s v r.parts
    comes v ws e (standing x y c) = standing v r.parts (back v (subst (λ z. Stands t v z) e c))
    comes v ws e (bounding x w y o c) = bounding v w r.parts (comes w ws e o) (subst (λ ns. Contains ns v) (high_vars w) c)

    occurs_low : (v : ℕ) → Occurs s v r.parts → v < width s
    occurs_low v o = below_width v (low_of ds t (row_of us vs) kept_row v (stays v r.parts refl o))

    -- a diagonal variable stands in no bound
    diagonal_stands : (v : ℕ) (ws : List Ty) → kind s v ≡ diagonal → Occurs s v ws → Stands s v ws
    diagonal_stands v ws d (standing x y c) = c
    diagonal_stands v ws d (bounding x w y o c) = let e : diagonal ≡ bound = sym d ∙ bound_in s v w (in_of (vars_in (high s w)) v c) in cc

    high_equal : (v : ℕ) → IsPlainForm ds (high s v) (C v).high ⊎ IsNamedForm ds v (B v) (C v) → Equal n (high s v) (C v).high
    high_equal v (inl p) = p.equal
    high_equal v (inr m) = (named_form v (B v) (C v) m).equal

    top_equal : (v : ℕ) (k : Kind) → kind s v ≡ k → Occurs s v r.parts → Equal n (by_kind k (r.chosen v) (high s v)) (by_kind k (at vs v) (C v).high)
    top_equal v unused e o = high_equal v (kept.bounds v (occurs_low v o)).high
    top_equal v once e o = high_equal v (kept.bounds v (occurs_low v o)).high
    top_equal v diagonal e o = kept.chosen v e (diagonal_stands v r.parts e o)
    top_equal v bound e o = high_equal v (kept.bounds v (occurs_low v o)).high

    pub stands : StandsFor n s t r (row_of us vs)
    stands = record {
      width = sym kept.long;
      kinds = λ v. sym (kinds v);
      parts = both_equal r.parts us kept.parts;
      low = λ v o. (kept.bounds v (occurs_low v o)).low.equal;
      top = λ v o. subst (λ k. Equal n (top s r v) (by_kind k (at vs v) (C v).high)) (sym (kinds v)) (top_equal v (kind s v) refl o);
      stays = λ v o. stays v r.parts refl o;
      comes = λ v o. comes v us refl o;
    }
