-- What a struct's parameters are inferred as: types that a value may keep in part.
use Rattle.std.proofs.Common.{◌≡◌, ◌∙◌, sym, ap, subst, refl, ℕ, zero, suc, ◌+◌, arith, Bool, true, false, cond, nat_eq, List, [], ◌∷◌, map, length, Option, None, Some}
use Rattle.std.specs.List.{flat_map}
use Rattle.jl_model.specs.declared.ty.Ty.{Ty, out-Ty}
use Rattle.jl_model.specs.declared.ty.Ty.TheOpen.{Ty-F, Any, Union, Tuple, Nominal, Var}
use Rattle.jl_model.specs.declared.ty.Ty.TheViews.{outs-Any, outs-Union, outs-Tuple, outs-Nominal}
use Rattle.jl_model.specs.declared.ty.Ty.TheViews as V
use Rattle.jl_model.specs.declared.ty.Ty.TheVariants as W
use Rattle.jl_model.specs.declared.ty.Bound.{Bound}
use Rattle.jl_model.specs.declared.ty.Decl.{Decl}
use Rattle.jl_model.specs.declared.ty.Written.{Written}
use Rattle.jl_model.specs.AllRows.{each_var}
use Rattle.jl_model.specs.Ancestors.{table_of}
use Rattle.jl_model.specs.Bindings.{binding, bindings}
use Rattle.jl_model.specs.Found.{find_arg, find_inner, find_outer, first, or_else, or_type, raised, parts_of, arguments_of, ancestor, or_none}
use Rattle.jl_model.specs.Normal.{IsNormal, AllNormal, any as normal_any, var as normal_var, nominal as normal_nominal, tuple as normal_tuple, union as normal_union, none, more}
use Rattle.jl_model.specs.Refusals.{Declared, Given, given_in, given_from}
use Rattle.jl_model.specs.Rows.{vars_in}
use Rattle.jl_model.specs.Subtype.{Table, opaque, lifted}
use Rattle.jl_model.specs.Usable.{is_usable}
use Rattle.jl_model.specs.Valid.{is_known, is_counted}
use Rattle.jl_model.proofs.AncestorLemmas.{IsPattern, each_true, true_each}
use Rattle.jl_model.proofs.DeclaredLemmas.{declared_lawful}
use Rattle.jl_model.proofs.FormLemmas.{is_tuple, is_nominal, is_var, vars-any, vars-union, vars-tuple, vars-nominal, vars-var}
use Rattle.jl_model.proofs.KnownLemmas.{known-any, union_known, tuple_known, nominal_known}
use Rattle.jl_model.proofs.NormalLemmas.{kids_nominal, kids_tuple}
use Rattle.jl_model.proofs.PutLemmas.{is_empty, is_pattern, pattern-any, pattern-union, pattern-tuple, pattern-nominal}
use Rattle.jl_model.proofs.TypeInduction.{Each, by_cases}
use Rattle.jl_types.proofs.GivenLemmas.{AllGiven, given-any, given-var, given-union, given-tuple, given-nominal, given_both, given_none}
use Rattle.jl_types.proofs.PartsLemmas.{counted_parts}
use Rattle.jl_search.proofs.FindLemmas as L
use Rattle.jl_match.proofs.RowLemmas.{lifted_normal}
use Rattle.jl_operations.proofs.GoodLemmas.{IsFine, IsNarrow, counted-any, any_narrow, narrow_tuple, narrow_union, narrow_nominal, lifted_fine, lifted_closed, none_left, none_right}

-- a type without variables is a pattern
empty_is : (ns : List ℕ) → ns ≡ [] → is_empty ns ≡ true
empty_is ns e = ap is_empty e

closed_each : (ts : List Ty) → Each (λ t. vars_in t ≡ [] → IsPattern t) ts → flat_map vars_in ts ≡ [] → Each IsPattern ts
closed_each [] e h = tt
closed_each (t ∷ ts) e h = (e.0 (none_left (vars_in t) (flat_map vars_in ts) h), closed_each ts e.1 (none_right (vars_in t) (flat_map vars_in ts) h))

closed_pattern : (t : Ty) → vars_in t ≡ [] → IsPattern t
closed_pattern = by_cases (λ t. vars_in t ≡ [] → IsPattern t) (record {
  any = λ h. pattern-any;
  union = λ ts e h. pattern-union ts ∙ empty_is (flat_map vars_in ts) (sym (vars-union ts) ∙ h);
  tuple = λ ts e h. pattern-tuple ts ∙ empty_is (flat_map vars_in ts) (sym (vars-tuple ts) ∙ h);
  nominal = λ k ts e h. pattern-nominal k ts ∙ each_true is_pattern ts (closed_each ts e (sym (vars-nominal k ts) ∙ h));
  var = λ v h. (let f : v ∷ [] ≡ [] = sym (vars-var v) ∙ h in cc);
})

-- a normal form without variables, known, counted and narrow
pub record IsGood (ds : List Decl) (t : Ty) : Type 0 where
  pub normal : IsNormal (table_of ds) t
  pub fine : IsFine ds t
  pub closed : vars_in t ≡ []

module _ (ds : List Decl) (declared : Declared ds) where
  abbrev n : Table
  n = table_of ds

  pub good_of : (t : Ty) → IsNormal n t → is_known (length ds) t ≡ true → is_counted ds t ≡ true → IsNarrow t → vars_in t ≡ [] → IsGood ds t
  good_of t a k c w e = record { normal = a; fine = record { pattern = closed_pattern t e; known = k; counted = c; narrow = w }; closed = e }

  pub any_good : IsGood ds W.Any
  any_good = good_of W.Any (normal_any W.Any outs-Any) (known-any (length ds)) (counted-any ds) any_narrow vars-any

  gather : (ts : List Ty) → AllNormal n ts → Each (IsFine ds) ts → flat_map vars_in ts ≡ [] → Each (IsGood ds) ts
  gather ts none f e = tt
  gather ts (more t us p q) f e = (record { normal = p; fine = f.0; closed = none_left (vars_in t) (flat_map vars_in us) e }, gather us q f.1 (none_right (vars_in t) (flat_map vars_in us) e))

  fine_each : (ts : List Ty) → Each (λ t. is_known (length ds) t ≡ true) ts → Each (λ t. is_counted ds t ≡ true) ts → Each IsNarrow ts → flat_map vars_in ts ≡ [] → Each (IsFine ds) ts
  fine_each [] k c w e = tt
  fine_each (t ∷ ts) k c w e = (
    record { pattern = closed_pattern t (none_left (vars_in t) (flat_map vars_in ts) e); known = k.0; counted = c.0; narrow = w.0 },
    fine_each ts k.1 c.1 w.1 (none_right (vars_in t) (flat_map vars_in ts) e),
  )

  pub good_tuple : (ts : List Ty) → IsGood ds (V.Tuple ts) → Each (IsGood ds) ts
  good_tuple ts h =
      let e = sym (vars-tuple ts) ∙ h.closed in
      gather ts (kids_tuple n (declared_lawful ds declared) (V.Tuple ts) ts h.normal (outs-Tuple ts))
      (fine_each ts (tuple_known (length ds) ts h.fine.known) (true_each (is_counted ds) ts (sym ((counted_parts ds).tuple_is ts) ∙ h.fine.counted)) (narrow_tuple ts h.fine.narrow) e) e

  pub good_nominal : (k : ℕ) (ts : List Ty) → IsGood ds (V.Nominal k ts) → Each (IsGood ds) ts
  good_nominal k ts h =
      let e = sym (vars-nominal k ts) ∙ h.closed in
      gather ts (kids_nominal n (declared_lawful ds declared) (V.Nominal k ts) k ts h.normal (outs-Nominal k ts))
      (fine_each ts (nominal_known (length ds) k ts h.fine.known).1 (true_each (is_counted ds) ts ((counted_parts ds).arguments k ts h.fine.counted)) (narrow_nominal k ts h.fine.narrow) e) e

  pub normals_of : (ts : List Ty) → Each (IsGood ds) ts → AllNormal n ts
  normals_of [] e = none
  normals_of (t ∷ ts) e = more t ts e.0.normal (normals_of ts e.1)

  fines_of : (ts : List Ty) → Each (IsGood ds) ts → Each (IsFine ds) ts
  fines_of [] e = tt
  fines_of (t ∷ ts) e = (e.0.fine, fines_of ts e.1)

  pub closeds_of : (ts : List Ty) → Each (IsGood ds) ts → flat_map vars_in ts ≡ []
  closeds_of [] e = refl
  closeds_of (t ∷ ts) e = let p = e.0.closed in let q = closeds_of ts e.1 in rw (p, q) refl

  good_lifted : (k m : ℕ) (xs zs : List Ty) → Each (IsGood ds) xs → lifted n k xs m ≡ Some zs → Each (IsGood ds) zs
  good_lifted k m xs zs e l = gather zs (lifted_normal ds declared k m xs zs (normals_of xs e) l) (lifted_fine ds declared k m xs zs (fines_of xs e) l) (lifted_closed ds declared k m xs zs (closeds_of xs e) l)

  -- ---- what a search finds

  abbrev Finds : (Ty → Option Ty) → Ty → Type 0
  Finds f t = (y : Ty) → f t ≡ Some y → IsGood ds y

  nothing : (y : Ty) (o : Option Ty) → o ≡ None → o ≡ Some y → IsGood ds y
  nothing y o e f = let g : None ≡ Some y = sym e ∙ f in cc

  either : (a b : Option Ty) (y : Ty) → ((z : Ty) → a ≡ Some z → IsGood ds z) → ((z : Ty) → b ≡ Some z → IsGood ds z) → or_else a b ≡ Some y → IsGood ds y
  either None b y f g h = g y h
  either (Some a) b y f g h = f y h

  first_good : (search : Ty → Ty → Option Ty) (us : List Ty) → Each (λ u. (t : Ty) → IsGood ds t → Finds (search u) t) us → (ts : List Ty) → Each (IsGood ds) ts → (y : Ty) → first (map search us) ts ≡ Some y → IsGood ds y
  first_good search [] e ts g y h = nothing y None refl h
  first_good search (u ∷ us) e [] g y h = nothing y None refl h
  first_good search (u ∷ us) e (t ∷ ts) g y h = either (search u t) (first (map search us) ts) y (e.0 t g.0) (first_good search us e.1 ts g.1) h

  layer_arguments : (t : Ty) (x : Ty-F Ty) → out-Ty t ≡ x → IsGood ds t → Each (IsGood ds) (arguments_of x)
  layer_arguments t Any e g = tt
  layer_arguments t (Union ts) e g = tt
  layer_arguments t (Tuple ts) e g = tt
  layer_arguments t (Nominal k ts) e g = good_nominal k ts (subst (IsGood ds) (is_nominal t k ts e) g)
  layer_arguments t (Var v) e g = tt

  no_var : (t : Ty) (v : ℕ) → out-Ty t ≡ Var v → IsGood ds t → (P : Type 0) → P
  no_var t v e g P = let f : v ∷ [] ≡ [] = sym (ap vars_in (is_var t v e) ∙ vars-var v) ∙ g.closed in cc

  layer_parts : (t : Ty) (x : Ty-F Ty) → out-Ty t ≡ x → IsGood ds t → Each (IsGood ds) (parts_of (raised opaque x))
  layer_parts t Any e g = tt
  layer_parts t (Union ts) e g = tt
  layer_parts t (Tuple ts) e g = good_tuple ts (subst (IsGood ds) (is_tuple t ts e) g)
  layer_parts t (Nominal k ts) e g = tt
  layer_parts t (Var v) e g = no_var t v e g (Each (IsGood ds) (parts_of (raised opaque (Var v))))

  lifted_or : (k m : ℕ) (xs : List Ty) (o : Option (List Ty)) → lifted n k xs m ≡ o → Each (IsGood ds) xs → Each (IsGood ds) (or_none o)
  lifted_or k m xs None e g = tt
  lifted_or k m xs (Some zs) e g = good_lifted k m xs zs g e

  layer_ancestor : (m : ℕ) (t : Ty) (x : Ty-F Ty) → out-Ty t ≡ x → IsGood ds t → Each (IsGood ds) (ancestor n m (raised opaque x))
  layer_ancestor m t Any e g = tt
  layer_ancestor m t (Union ts) e g = tt
  layer_ancestor m t (Tuple ts) e g = tt
  layer_ancestor m t (Nominal k ts) e g = lifted_or k m ts (lifted n k ts m) refl (good_nominal k ts (subst (IsGood ds) (is_nominal t k ts e) g))
  layer_ancestor m t (Var v) e g = no_var t v e g (Each (IsGood ds) (ancestor n m (raised opaque (Var v))))

  at_var : (v w : ℕ) (t y : Ty) (b : Bool) → IsGood ds t → cond b (Some t) None ≡ Some y → IsGood ds y
  at_var v w t y true g h = let e : t ≡ y = cc in subst (IsGood ds) e g
  at_var v w t y false g h = nothing y None refl h

  module _ (v : ℕ) where
    arg_good : (u t : Ty) → IsGood ds t → Finds (find_arg v u) t
    arg_good = by_cases (λ u. (t : Ty) → IsGood ds t → Finds (find_arg v u) t) (record {
      any = λ t g y h. nothing y (find_arg v W.Any t) (L.arg-any v t) h;
      union = λ us e t g y h. nothing y (find_arg v (V.Union us) t) (L.arg-union v t us) h;
      tuple = λ us e t g y h. nothing y (find_arg v (V.Tuple us) t) (L.arg-tuple v t us) h;
      nominal = λ k us e t g y h. first_good (find_arg v) us e (arguments_of (out-Ty t)) (layer_arguments t (out-Ty t) refl g) y (sym (L.arg-nominal v t k us) ∙ h);
      var = λ w t g y h. at_var v w t y (nat_eq v w) g (sym (L.arg-var v t w) ∙ h);
    })

    args_good : (us : List Ty) → Each (λ u. (t : Ty) → IsGood ds t → Finds (find_arg v u) t) us
    args_good [] = tt
    args_good (u ∷ us) = (arg_good u, args_good us)

    inner_good : (u t : Ty) → IsGood ds t → Finds (find_inner n opaque v u) t
    inner_good = by_cases (λ u. (t : Ty) → IsGood ds t → Finds (find_inner n opaque v u) t) (record {
      any = λ t g y h. nothing y (find_inner n opaque v W.Any t) (L.inner-find-any n opaque v t) h;
      union = λ us e t g y h. nothing y (find_inner n opaque v (V.Union us) t) (L.inner-find-union n opaque v t us) h;
      tuple = λ us e t g y h. first_good (find_inner n opaque v) us e (parts_of (raised opaque (out-Ty t))) (layer_parts t (out-Ty t) refl g) y (sym (L.inner-find-tuple n opaque v t us) ∙ h);
      nominal = λ m us e t g y h.
          first_good (find_arg v) us (args_good us) (ancestor n m (raised opaque (out-Ty t))) (layer_ancestor m t (out-Ty t) refl g) y (sym (L.inner-find-nominal n opaque v t m us) ∙ h);
      var = λ w t g y h. nothing y (find_inner n opaque v (W.Var w) t) (L.inner-find-var n opaque v t w) h;
    })

    outer_good : (u t : Ty) → IsGood ds t → Finds (find_outer opaque v u) t
    outer_good = by_cases (λ u. (t : Ty) → IsGood ds t → Finds (find_outer opaque v u) t) (record {
      any = λ t g y h. nothing y (find_outer opaque v W.Any t) (L.outer-find-any opaque v t) h;
      union = λ us e t g y h. nothing y (find_outer opaque v (V.Union us) t) (L.outer-find-union opaque v t us) h;
      tuple = λ us e t g y h. first_good (find_outer opaque v) us e (parts_of (raised opaque (out-Ty t))) (layer_parts t (out-Ty t) refl g) y (sym (L.outer-find-tuple opaque v t us) ∙ h);
      nominal = λ m us e t g y h. nothing y (find_outer opaque v (V.Nominal m us) t) (L.outer-find-nominal opaque v t m us) h;
      var = λ w t g y h. at_var v w t y (nat_eq v w) g (sym (L.outer-find-var opaque v t w) ∙ h);
    })

    each_inner : (us : List Ty) → Each (λ u. (t : Ty) → IsGood ds t → Finds (find_inner n opaque v u) t) us
    each_inner [] = tt
    each_inner (u ∷ us) = (inner_good u, each_inner us)

    each_outer : (us : List Ty) → Each (λ u. (t : Ty) → IsGood ds t → Finds (find_outer opaque v u) t) us
    each_outer [] = tt
    each_outer (u ∷ us) = (outer_good u, each_outer us)

  or_any : (o : Option Ty) → ((y : Ty) → o ≡ Some y → IsGood ds y) → IsGood ds (or_type o W.Any)
  or_any None f = any_good
  or_any (Some y) f = f y refl

  usable_good : (b : Bool) (t : Ty) → IsGood ds t → IsGood ds (cond b t W.Any)
  usable_good true t g = g
  usable_good false t g = any_good

  -- what is inferred for a variable
  pub binding_good : (s : Written) (ts : List Ty) → Each (IsGood ds) ts → (v : ℕ) → IsGood ds (binding n s ts v)
  binding_good s ts g v =
      let i = first (map (find_inner n opaque v) s.parts) ts in
      let o = first (map (find_outer opaque v) s.parts) ts in
      usable_good (is_usable s v) (or_type (or_else i o) W.Any)
      (or_any (or_else i o) (λ y h. either i o y (first_good (find_inner n opaque v) s.parts (each_inner v s.parts) ts g) (first_good (find_outer opaque v) s.parts (each_outer v s.parts) ts g) h))

  each_good : (f : ℕ → Ty) → ((v : ℕ) → IsGood ds (f v)) → (i : ℕ) (bs : List Bound) → Each (IsGood ds) (each_var f i bs)
  each_good f g i [] = tt
  each_good f g i (b ∷ bs) = (g i, each_good f g (i + 1) bs)

  pub bindings_good : (s : Written) (ts : List Ty) → Each (IsGood ds) ts → Each (IsGood ds) (bindings n s ts)
  bindings_good s ts g = each_good (binding n s ts) (binding_good s ts g) 0 s.vars

  -- ---- what stands inside

  kids_union : (t : Ty) (ts : List Ty) → IsNormal n t → out-Ty t ≡ Union ts → AllNormal n ts
  kids_union t ts (normal_any a e) o = let g : Any ≡ Union ts = sym e ∙ o in cc
  kids_union t ts (normal_var a v e) o = let g : Var v ≡ Union ts = sym e ∙ o in cc
  kids_union t ts (normal_nominal a k xs e h) o = let g : Nominal k xs ≡ Union ts = sym e ∙ o in cc
  kids_union t ts (normal_tuple a xs e h b) o = let g : Tuple xs ≡ Union ts = sym e ∙ o in cc
  kids_union t ts (normal_union a xs e h b m l) o = let g : Union xs ≡ Union ts = sym e ∙ o in let i : xs ≡ ts = cc in subst (AllNormal n) i h

  good_union : (ts : List Ty) → IsGood ds (V.Union ts) → Each (IsGood ds) ts
  good_union ts h =
      let e = sym (vars-union ts) ∙ h.closed in
      gather ts (kids_union (V.Union ts) ts h.normal (outs-Union ts))
      (fine_each ts (union_known (length ds) ts h.fine.known) (true_each (is_counted ds) ts (sym ((counted_parts ds).union_is ts) ∙ h.fine.counted)) (narrow_union ts h.fine.narrow) e) e

  abbrev Inside : Given → Type 0
  Inside a = IsGood ds a.ty

  inside_each : (ts : List Ty) → Each (λ t. IsGood ds t → AllGiven Inside (given_in t)) ts → Each (IsGood ds) ts → AllGiven Inside (flat_map given_in ts)
  inside_each [] e g = given_none Inside
  inside_each (t ∷ ts) e g = given_both Inside (given_in t) (flat_map given_in ts) (e.0 g.0) (inside_each ts e.1 g.1)

  inside_own : (k j : ℕ) (ts : List Ty) → Each (IsGood ds) ts → AllGiven Inside (given_from k j ts)
  inside_own k j [] g a c = given_none Inside a c
  inside_own k j (t ∷ ts) g a (zero, l, e) = subst Inside e g.0
  inside_own k j (t ∷ ts) g a (suc i, l, e) = inside_own k (j + 1) ts g.1 a (i, omega (arith, l), e)

  pub given_good : (t : Ty) → IsGood ds t → AllGiven Inside (given_in t)
  given_good = by_cases (λ t. IsGood ds t → AllGiven Inside (given_in t)) (record {
    any = λ g. subst (AllGiven Inside) (sym given-any) (given_none Inside);
    union = λ ts e g. subst (AllGiven Inside) (sym (given-union ts)) (inside_each ts e (good_union ts g));
    tuple = λ ts e g. subst (AllGiven Inside) (sym (given-tuple ts)) (inside_each ts e (good_tuple ts g));
    nominal = λ k ts e g.
        (let p = good_nominal k ts g in
        subst (AllGiven Inside) (sym (given-nominal k ts)) (given_both Inside (given_from k 0 ts) (flat_map given_in ts) (inside_own k 0 ts p) (inside_each ts e p)));
    var = λ v g. subst (AllGiven Inside) (sym (given-var v)) (given_none Inside);
  })
