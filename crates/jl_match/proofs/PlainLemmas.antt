-- What is found in plain types is plain: a normal form without variables, of declared nominal types.
use Rattle.std.proofs.Common.{◌≡◌, ◌∙◌, sym, ap, ap₂, subst, refl, ℕ, zero, suc, ◌+◌, ◌≤◌, arith, Bool, true, false, cond, nat_eq, List, [], ◌∷◌, ◌++◌, map, length, get_or, Option, None, Some, ◌⊎◌, inl, inr}
use Rattle.std.specs.List.{flat_map, list_all}
use Rattle.jl_model.specs.declared.ty.Ty.{Ty}
use Rattle.jl_model.specs.declared.ty.Ty.TheOpen.{Ty-F, Any, Union, Tuple, Nominal, Var}
use Rattle.jl_model.specs.declared.ty.Ty.TheViews.{out-Ty, outs-Any, outs-Union, outs-Nominal}
use Rattle.jl_model.specs.declared.ty.Ty.TheViews as V
use Rattle.jl_model.specs.declared.ty.Ty.TheVariants as W
use Rattle.jl_model.specs.declared.ty.Bound.{Bound}
use Rattle.jl_model.specs.declared.ty.Decl.{Decl}
use Rattle.jl_model.specs.declared.ty.Written.{Written}
use Rattle.jl_model.specs.Ancestors.{table_of}
use Rattle.jl_model.specs.Rows.{alts, width, kind, atom, vars_in}
use Rattle.jl_model.specs.Subtype.{Table, opaque, put, at, lifted}
use Rattle.jl_model.specs.Signature.{Row, top, is_diagonal}
use Rattle.jl_model.specs.Normal.{no_union, is_single, IsNormal, AllNormal, any, var, nominal, tuple, union, none, more}
use Rattle.jl_model.specs.Valid.{is_known}
use Rattle.jl_model.specs.Refusals.{Declared}
use Rattle.jl_model.proofs.TypeInduction.{Each, by_cases}
use Rattle.jl_model.proofs.FormLemmas.{is_union, is_tuple, is_nominal, is_var, alts-union, put-any, put-union, put-tuple, put-nominal, put-var, vars-any, vars-union, vars-tuple, vars-nominal, vars-var}
use Rattle.jl_model.proofs.AncestorLemmas.{true_each, long-snoc}
use Rattle.jl_model.proofs.PutLemmas.{and_l, and_r}
use Rattle.jl_model.proofs.KnownLemmas.{Known, known-any, union_known, tuple_known, nominal_known, put_all_known}
use Rattle.jl_model.proofs.TransLemmas.{far, near}
use Rattle.jl_model.proofs.NormalLemmas.{kids_nominal, kids_tuple, single_alts}
use Rattle.jl_model.proofs.FillLemmas.{ancestors_known}
use Rattle.jl_model.proofs.DeclaredLemmas.{declared_lawful}
use Rattle.jl_model.specs.Found.{first, first_form, risen, risen_form, rising, or_else, or_type, or_none, raised, parts_of, arguments_of, ancestor, find_arg, find_inner, find_outer, find_bound, find_bound_form, then_find, at_atom, witness, in_bounds, hit, hits, filled, found}
use Rattle.jl_match.specs.KeptRow.{IsKeptTop, IsKeptRow, AreConcrete, AreGround}
use Rattle.jl_match.specs.Hits.{IsPlainHit}
use Rattle.jl_search.specs.Serving.{IsPlain}
use Rattle.jl_search.proofs.FindLemmas as L
use Rattle.jl_search.proofs.FillLemmas.{long_hits}
use Rattle.jl_match.proofs.TopLemmas.{top_ground}
use Rattle.jl_match.proofs.RowLemmas.{lifted_normal}

abbrev Closed : Ty → Type 0
Closed t = vars_in t ≡ []

-- types without variables put in leave none
no_vars : (ts : List Ty) → Each Closed ts → flat_map vars_in ts ≡ []
no_vars [] e = refl
no_vars (t ∷ ts) e = let a = e.0 in let b = no_vars ts e.1 in rw (a, b) refl

vars_none : (ts : List Ty) → flat_map vars_in ts ≡ [] → Each Closed ts
vars_none [] e = tt
vars_none (t ∷ ts) e = let r = both_empty (vars_in t) (flat_map vars_in ts) e in (r.0, vars_none ts r.1)
  where
    both_empty : (ms ns : List ℕ) → (ms ++ ns) ≡ [] → (ms ≡ []) × (ns ≡ [])
    both_empty [] ns e = (refl, e)
    both_empty (m ∷ ms) ns e = cc

at_closed : (xs : List Ty) (v : ℕ) → Each Closed xs → Closed (at xs v)
at_closed [] v e = vars-any
at_closed (x ∷ xs) zero e = e.0
at_closed (x ∷ xs) (suc v) e = at_closed xs v e.1

put_each : (xs ts : List Ty) → Each (λ t. Closed (put (at xs) t)) ts → Each Closed (map (put (at xs)) ts)
put_each xs [] e = tt
put_each xs (t ∷ ts) e = (e.0, put_each xs ts e.1)

put_closed : (xs : List Ty) → Each Closed xs → (t : Ty) → Closed (put (at xs) t)
put_closed xs h = by_cases (λ t. Closed (put (at xs) t)) (record {
  any = ap vars_in (put-any (at xs)) ∙ vars-any;
  union = λ ts e. ap vars_in (put-union (at xs) ts) ∙ vars-union (map (put (at xs)) ts) ∙ no_vars (map (put (at xs)) ts) (put_each xs ts e);
  tuple = λ ts e. ap vars_in (put-tuple (at xs) ts) ∙ vars-tuple (map (put (at xs)) ts) ∙ no_vars (map (put (at xs)) ts) (put_each xs ts e);
  nominal = λ k ts e. ap vars_in (put-nominal (at xs) k ts) ∙ vars-nominal k (map (put (at xs)) ts) ∙ no_vars (map (put (at xs)) ts) (put_each xs ts e);
  var = λ v. ap vars_in (put-var (at xs) v) ∙ at_closed xs v h;
})

put_all_closed : (xs : List Ty) → Each Closed xs → (ts : List Ty) → Each Closed (map (put (at xs)) ts)
put_all_closed xs h [] = tt
put_all_closed xs h (t ∷ ts) = (put_closed xs h t, put_all_closed xs h ts)

module _ (ds : List Decl) (declared : Declared ds) where
  abbrev n : Table
  n = table_of ds

  abbrev pub Plain : Ty → Type 0
  Plain = IsPlain ds

  join : (ts : List Ty) → AllNormal n ts → Each (Known (length ds)) ts → Each Closed ts → Each Plain ts
  join ts none k c = tt
  join ts (more t us p q) k c = (record { normal = p; known = k.0; closed = c.0 }, join us q k.1 c.1)

  pub plain_parts : (t : Ty) (xs : List Ty) → out-Ty t ≡ Tuple xs → Plain t → Each Plain xs
  plain_parts t xs o h =
      let i = is_tuple t xs o in
      join xs (kids_tuple n (declared_lawful ds declared) t xs h.normal o) (tuple_known (length ds) xs (subst (Known (length ds)) i h.known)) (vars_none xs (sym (vars-tuple xs) ∙ sym (ap vars_in i) ∙ h.closed))

  known_args : (t : Ty) (k : ℕ) (xs : List Ty) → out-Ty t ≡ Nominal k xs → Plain t → Each (Known (length ds)) xs
  known_args t k xs o h = (nominal_known (length ds) k xs (subst (Known (length ds)) (is_nominal t k xs o) h.known)).1

  closed_args : (t : Ty) (k : ℕ) (xs : List Ty) → out-Ty t ≡ Nominal k xs → Plain t → Each Closed xs
  closed_args t k xs o h = vars_none xs (sym (vars-nominal k xs) ∙ sym (ap vars_in (is_nominal t k xs o)) ∙ h.closed)

  pub plain_args : (t : Ty) (k : ℕ) (xs : List Ty) → out-Ty t ≡ Nominal k xs → Plain t → Each Plain xs
  plain_args t k xs o h = join xs (kids_nominal n (declared_lawful ds declared) t k xs h.normal o) (known_args t k xs o h) (closed_args t k xs o h)

  known_far : (k m : ℕ) (ys : List Ty) → n.up k m ≡ Some ys → Each (Known (length ds)) ys
  unfolding table_of
  known_far k m ys u = ancestors_known ds declared k m ys u

  pub lifted_plain : (t : Ty) (k m : ℕ) (xs zs : List Ty) (b : Bool) → nat_eq k m ≡ b → out-Ty t ≡ Nominal k xs → Plain t → lifted n k xs m ≡ Some zs → Each Plain zs
  lifted_plain t k m xs zs true e o h l = subst (Each Plain) (near n (declared_lawful ds declared) k m xs zs e l) (plain_args t k xs o h)
  lifted_plain t k m xs zs false e o h l =
      let r = far n (declared_lawful ds declared) k m xs zs e l in
      join zs (lifted_normal ds declared k m xs zs (kids_nominal n (declared_lawful ds declared) t k xs h.normal o) l)
      (subst (Each (Known (length ds))) r.2 (put_all_known (length ds) xs (known_args t k xs o h) r.0 (known_far k m r.0 r.1)))
      (subst (Each Closed) r.2 (put_all_closed xs (closed_args t k xs o h) r.0))

  -- what is found, if anything
  abbrev Hit : Option Ty → Type 0
  Hit = IsPlainHit ds

  first_hit : (F : Ty → Ty → Option Ty) (us ts : List Ty) → Each (λ u. (t : Ty) → Plain t → Hit (F u t)) us → Each Plain ts → Hit (first (map F us) ts)
  first_hit F [] ts e h = tt
  first_hit F (u ∷ us) [] e h = tt
  first_hit F (u ∷ us) (t ∷ ts) e h = pick (F u t) (e.0 t h.0) (first_hit F us ts e.1 h.1)
    where
      pick : (o : Option Ty) → Hit o → Hit (first (map F us) ts) → Hit (or_else o (first (map F us) ts))
      pick None a b = b
      pick (Some y) a b = a

  var_hit : (b : Bool) (t : Ty) → Plain t → Hit (cond b (Some t) None)
  var_hit true t h = h
  var_hit false t h = tt

  parts_hit : (t : Ty) (x : Ty-F Ty) → out-Ty t ≡ x → Plain t → Each Plain (parts_of (raised opaque x))
  parts_hit t Any o h = tt
  parts_hit t (Union ts) o h = tt
  parts_hit t (Nominal k ts) o h = tt
  parts_hit t (Var v) o h = subst (λ x. Each Plain (parts_of x)) (sym outs-Any) tt
  parts_hit t (Tuple ts) o h = plain_parts t ts o h

  arguments_hit : (t : Ty) (x : Ty-F Ty) → out-Ty t ≡ x → Plain t → Each Plain (arguments_of x)
  arguments_hit t Any o h = tt
  arguments_hit t (Union ts) o h = tt
  arguments_hit t (Tuple ts) o h = tt
  arguments_hit t (Var v) o h = tt
  arguments_hit t (Nominal k ts) o h = plain_args t k ts o h

  or_hit : (o : Option (List Ty)) → ((zs : List Ty) → o ≡ Some zs → Each Plain zs) → Each Plain (or_none o)
  or_hit None h = tt
  or_hit (Some zs) h = h zs refl

  ancestor_hit : (m : ℕ) (t : Ty) (x : Ty-F Ty) → out-Ty t ≡ x → Plain t → Each Plain (ancestor n m (raised opaque x))
  ancestor_hit m t Any o h = tt
  ancestor_hit m t (Union ts) o h = tt
  ancestor_hit m t (Tuple ts) o h = tt
  ancestor_hit m t (Var v) o h = subst (λ x. Each Plain (ancestor n m x)) (sym outs-Any) tt
  ancestor_hit m t (Nominal k xs) o h = or_hit (lifted n k xs m) (λ zs l. lifted_plain t k m xs zs (nat_eq k m) refl o h l)

  arg_hit : (v : ℕ) (u : Ty) (t : Ty) → Plain t → Hit (find_arg v u t)
  arg_hit v = by_cases (λ u. (t : Ty) → Plain t → Hit (find_arg v u t)) (record {
    any = λ t h. subst Hit (sym (L.arg-any v t)) tt;
    union = λ us e t h. subst Hit (sym (L.arg-union v t us)) tt;
    tuple = λ us e t h. subst Hit (sym (L.arg-tuple v t us)) tt;
    nominal = λ k us e t h. subst Hit (sym (L.arg-nominal v t k us)) (first_hit (find_arg v) us (arguments_of (out-Ty t)) e (arguments_hit t (out-Ty t) refl h));
    var = λ w t h. subst Hit (sym (L.arg-var v t w)) (var_hit (nat_eq v w) t h);
  })

  each_arg : (v : ℕ) (us : List Ty) → Each (λ u. (t : Ty) → Plain t → Hit (find_arg v u t)) us
  each_arg v [] = tt
  each_arg v (u ∷ us) = (arg_hit v u, each_arg v us)

  inner_hit : (v : ℕ) (u : Ty) (t : Ty) → Plain t → Hit (find_inner n opaque v u t)
  inner_hit v = by_cases (λ u. (t : Ty) → Plain t → Hit (find_inner n opaque v u t)) (record {
    any = λ t h. subst Hit (sym (L.inner-find-any n opaque v t)) tt;
    union = λ us e t h. subst Hit (sym (L.inner-find-union n opaque v t us)) tt;
    tuple = λ us e t h. subst Hit (sym (L.inner-find-tuple n opaque v t us)) (first_hit (find_inner n opaque v) us (parts_of (raised opaque (out-Ty t))) e (parts_hit t (out-Ty t) refl h));
    nominal = λ m us e t h. subst Hit (sym (L.inner-find-nominal n opaque v t m us)) (first_hit (find_arg v) us (ancestor n m (raised opaque (out-Ty t))) (each_arg v us) (ancestor_hit m t (out-Ty t) refl h));
    var = λ w t h. subst Hit (sym (L.inner-find-var n opaque v t w)) tt;
  })

  each_inner : (v : ℕ) (us : List Ty) → Each (λ u. (t : Ty) → Plain t → Hit (find_inner n opaque v u t)) us
  each_inner v [] = tt
  each_inner v (u ∷ us) = (inner_hit v u, each_inner v us)

  outer_hit : (v : ℕ) (u : Ty) (t : Ty) → Plain t → Hit (find_outer opaque v u t)
  outer_hit v = by_cases (λ u. (t : Ty) → Plain t → Hit (find_outer opaque v u t)) (record {
    any = λ t h. subst Hit (sym (L.outer-find-any opaque v t)) tt;
    union = λ us e t h. subst Hit (sym (L.outer-find-union opaque v t us)) tt;
    tuple = λ us e t h. subst Hit (sym (L.outer-find-tuple opaque v t us)) (first_hit (find_outer opaque v) us (parts_of (raised opaque (out-Ty t))) e (parts_hit t (out-Ty t) refl h));
    nominal = λ m us e t h. subst Hit (sym (L.outer-find-nominal opaque v t m us)) tt;
    var = λ w t h. subst Hit (sym (L.outer-find-var opaque v t w)) (var_hit (nat_eq v w) t h);
  })

  each_outer : (v : ℕ) (us : List Ty) → Each (λ u. (t : Ty) → Plain t → Hit (find_outer opaque v u t)) us
  each_outer v [] = tt
  each_outer v (u ∷ us) = (outer_hit v u, each_outer v us)

  any_plain : Plain W.Any
  any_plain = record { normal = any W.Any outs-Any; known = known-any (length ds); closed = vars-any }

  or_plain : (o : Option Ty) (u : Ty) → Hit o → Plain u → Plain (or_type o u)
  or_plain None u h p = p
  or_plain (Some y) u h p = h

  either_hit : (b : Bool) (o p : Option Ty) → Hit o → Hit p → Hit (cond b o p)
  either_hit true o p h k = h
  either_hit false o p h k = k

  -- a type without variables stands for itself
  pub no_variable : (t : Ty) → Closed t → (v : ℕ) → out-Ty t ≡ Var v → ⊥
  no_variable t c v e = let f : v ∷ [] ≡ [] = sym (vars-var v) ∙ sym (ap vars_in (is_var t v e)) ∙ c in cc

  risen_same : (t : Ty) (x : Ty-F Ty) → out-Ty t ≡ x → Closed t → risen opaque t ≡ t
  risen_same t Any e c = ap (risen_form opaque t) e
  risen_same t (Union ts) e c = ap (risen_form opaque t) e
  risen_same t (Tuple ts) e c = ap (risen_form opaque t) e
  risen_same t (Nominal k ts) e c = ap (risen_form opaque t) e
  risen_same t (Var v) e c = absurd (no_variable t c v e)

  raised_same : (t : Ty) (x : Ty-F Ty) → out-Ty t ≡ x → Closed t → raised opaque x ≡ x
  raised_same t Any e c = refl
  raised_same t (Union ts) e c = refl
  raised_same t (Tuple ts) e c = refl
  raised_same t (Nominal k ts) e c = refl
  raised_same t (Var v) e c = absurd (no_variable t c v e)

  -- the alternatives of a plain type: itself, or its members
  own_alternative : (t : Ty) → Plain t → is_single t ≡ true → alts (risen opaque t) ≡ t ∷ []
  own_alternative t h s = ap alts (risen_same t (out-Ty t) refl h.closed) ∙ single_alts n t h.normal s

  rising_single : (t : Ty) → Plain t → is_single t ≡ true → rising opaque t ≡ t ∷ []
  rising_single t h s = ap (flat_map (λ a. alts (risen opaque a))) (single_alts n t h.normal s) ∙ ap (λ z. z ++ []) (own_alternative t h s)

  own_members : (ts : List Ty) → Each Plain ts → list_all is_single ts ≡ true → flat_map alts ts ≡ ts
  own_members [] h s = refl
  own_members (t ∷ ts) h s = ap₂ (λ x y. x ++ y) (single_alts n t h.0.normal (and_l (is_single t) (list_all is_single ts) s)) (own_members ts h.1 (and_r (is_single t) (list_all is_single ts) s))

  risen_members : (ts : List Ty) → Each Plain ts → list_all is_single ts ≡ true → flat_map (λ a. alts (risen opaque a)) ts ≡ ts
  risen_members [] h s = refl
  risen_members (t ∷ ts) h s = ap₂ (λ x y. x ++ y) (own_alternative t h.0 (and_l (is_single t) (list_all is_single ts) s)) (risen_members ts h.1 (and_r (is_single t) (list_all is_single ts) s))

  union_kids : (t : Ty) (ts : List Ty) → out-Ty t ≡ Union ts → IsNormal n t → AllNormal n ts × (list_all is_single ts ≡ true)
  union_kids t ts o (any x e) = let c : Union ts ≡ Any = sym o ∙ e in cc
  union_kids t ts o (var x v e) = let c : Union ts ≡ Var v = sym o ∙ e in cc
  union_kids t ts o (nominal x k xs e g) = let c : Union ts ≡ Nominal k xs = sym o ∙ e in cc
  union_kids t ts o (tuple x xs e g h) = let c : Union ts ≡ Tuple xs = sym o ∙ e in cc
  union_kids t ts o (union x us e g h i j) =
      let c : Union us ≡ Union ts = sym e ∙ o in
      let d : us ≡ ts = cc in (subst (AllNormal n) d g, subst (λ z. list_all is_single z ≡ true) d h)

  plain_members : (t : Ty) (ts : List Ty) → out-Ty t ≡ Union ts → Plain t → Each Plain ts
  plain_members t ts o h =
      let i = is_union t ts o in
      join ts (union_kids t ts o h.normal).0 (union_known (length ds) ts (subst (Known (length ds)) i h.known)) (vars_none ts (sym (vars-union ts) ∙ sym (ap vars_in i) ∙ h.closed))

  pub rising_union : (t : Ty) (ts : List Ty) → out-Ty t ≡ Union ts → Plain t → rising opaque t ≡ ts
  rising_union t ts o h =
      let k = plain_members t ts o h in
      let s = (union_kids t ts o h.normal).1 in
      ap (flat_map (λ a. alts (risen opaque a))) (ap alts (is_union t ts o) ∙ alts-union ts ∙ own_members ts k s) ∙ risen_members ts k s

  -- the ancestor of the first alternative
  by_single : (m : ℕ) (t : Ty) → Plain t → is_single t ≡ true → ancestor n m (first_form (rising opaque t)) ≡ ancestor n m (raised opaque (out-Ty t))
  by_single m t h s = ap (λ z. ancestor n m (first_form z)) (rising_single t h s) ∙ ap (ancestor n m) (sym (raised_same t (out-Ty t) refl h.closed))

  pub by_form : (m : ℕ) (t : Ty) (x : Ty-F Ty) (zs : List Ty) → out-Ty t ≡ x → no_union x ≡ true → Plain t → zs ≡ ancestor n m (raised opaque x) → zs ≡ ancestor n m (first_form (rising opaque t))
  by_form m t x zs o s h e = e ∙ ap (λ z. ancestor n m (raised opaque z)) (sym o) ∙ sym (by_single m t h (ap no_union o ∙ s))

  pub by_member : (m : ℕ) (t x : Ty) (ts xs : List Ty) → t ≡ V.Union ts → ts ≡ x ∷ xs → Plain t → ancestor n m (first_form (rising opaque t)) ≡ ancestor n m (raised opaque (out-Ty x))
  by_member m t x ts xs e f h =
      let o : out-Ty t ≡ Union ts = ap out-Ty e ∙ outs-Union ts in
      let k : Each Plain (x ∷ xs) = subst (Each Plain) f (plain_members t ts o h) in
      ap (λ z. ancestor n m (first_form z)) (rising_union t ts o h ∙ f) ∙ ap (ancestor n m) (sym (raised_same x (out-Ty x) refl k.0.closed))

  pub member_known : (t x : Ty) (ts xs : List Ty) → t ≡ V.Union ts → ts ≡ x ∷ xs → Plain t → is_known (length ds) x ≡ true
  member_known t x ts xs e f h = (subst (Each Plain) f (plain_members t ts (ap out-Ty e ∙ outs-Union ts) h)).0.known

  pub by_none : (m : ℕ) (t : Ty) (ts : List Ty) → t ≡ V.Union ts → ts ≡ [] → Plain t → [] ≡ ancestor n m (first_form (rising opaque t))
  by_none m t ts e f h = sym (ap (λ z. ancestor n m (first_form z)) (rising_union t ts (ap out-Ty e ∙ outs-Union ts) h ∙ f))

  -- what is found in an upper bound
  alternatives_hit : (m : ℕ) (ts : List Ty) → Each Plain ts → Each Plain (ancestor n m (first_form ts))
  alternatives_hit m [] h = tt
  alternatives_hit m (t ∷ ts) h = subst (λ x. Each Plain (ancestor n m x)) (raised_same t (out-Ty t) refl h.0.closed) (ancestor_hit m t (out-Ty t) refl h.0)

  single_or : (x : Ty-F Ty) → (no_union x ≡ true) ⊎ ((ts : List Ty) × (x ≡ Union ts))
  single_or Any = inl refl
  single_or (Union ts) = inr (ts, refl)
  single_or (Tuple ts) = inl refl
  single_or (Nominal k ts) = inl refl
  single_or (Var v) = inl refl

  pub each_rising : (t : Ty) → Plain t → Each Plain (rising opaque t)
  each_rising t h = elim (single_or (out-Ty t)) [
    | inl s ↦ subst (Each Plain) (sym (rising_single t h s)) (h, tt)
    | inr u ↦ subst (Each Plain) (sym (rising_union t u.0 u.1 h)) (plain_members t u.0 u.1 h)
  ]

  bound_form : (v : ℕ) (t : Ty) → Plain t → (x : Ty-F Ty) → Hit (find_bound_form n opaque v x t)
  bound_form v t h Any = tt
  bound_form v t h (Union us) = tt
  bound_form v t h (Tuple us) = tt
  bound_form v t h (Var w) = tt
  bound_form v t h (Nominal m us) = first_hit (find_arg v) us (ancestor n m (first_form (rising opaque t))) (each_arg v us) (alternatives_hit m (rising opaque t) (each_rising t h))

  then_hit : (v : ℕ) (u : Ty) (o : Option Ty) → Hit o → Hit (then_find (find_bound n opaque v u) o)
  then_hit v u None h = tt
  then_hit v u (Some t) h = bound_form v t h (out-Ty u)

  pub else_hit : (o p : Option Ty) → Hit o → Hit p → Hit (or_else o p)
  else_hit None p h k = k
  else_hit (Some y) p h k = h

  pub types_plain : (ts : List Ty) → AreConcrete ds ts → Each Plain ts
  types_plain ts h = join ts h.normal (true_each (is_known (length ds)) ts h.known) (vars_none ts h.closed)

  abbrev pub AllHits : List (Option Ty) → Type 0
  AllHits [] = Unit {0}
  AllHits (o ∷ os) = Hit o × AllHits os

  pub hit_at : (os : List (Option Ty)) → AllHits os → (v : ℕ) → Hit (get_or os v None)
  hit_at [] h v = tt
  hit_at (o ∷ os) h zero = h.0
  hit_at (o ∷ os) h (suc v) = hit_at os h.1 v

  -- what is found for the variables of a row
  pub outers_hit : (parts ts : List Ty) → Each Plain ts → (v : ℕ) → Hit (first (map (find_outer opaque v) parts) ts)
  outers_hit parts ts types v = first_hit (find_outer opaque v) parts ts (each_outer v parts) types

  module _ (s : Written) (r : Row) (ts : List Ty) (types : Each Plain ts) where
    inners_hit : (v : ℕ) → Hit (first (map (find_inner n opaque v) r.parts) ts)
    inners_hit v = first_hit (find_inner n opaque v) r.parts ts (each_inner v r.parts) types

    bounds_hit : (v w : ℕ) (bs : List Bound) (os : List (Option Ty)) → AllHits os → Hit (in_bounds n opaque s r ts v w bs os)
    bounds_hit v w [] os h = tt
    bounds_hit v w (b ∷ bs) [] h = tt
    bounds_hit v w (b ∷ bs) (o ∷ os) h =
        else_hit (then_find (find_bound n opaque v b.high) (witness n opaque s r ts w o)) (in_bounds n opaque s r ts v (w + 1) bs os)
        (then_hit v b.high (witness n opaque s r ts w o) (else_hit o (at_atom n opaque s r ts w) h.0 (outers_hit r.parts ts types (atom s w 0)))) (bounds_hit v (w + 1) bs os h.1)

    pub one_hit : (v : ℕ) (bs : List Bound) (os : List (Option Ty)) → AllHits os → Hit (hit n opaque s r ts v bs os)
    one_hit v bs os h =
        either_hit (is_diagonal (kind s v)) (first (map (find_outer opaque v) r.parts) ts) (or_else (first (map (find_inner n opaque v) r.parts) ts) (in_bounds n opaque s r ts v (v + 1) bs os))
        (outers_hit r.parts ts types v) (else_hit (first (map (find_inner n opaque v) r.parts) ts) (in_bounds n opaque s r ts v (v + 1) bs os) (inners_hit v) (bounds_hit v (v + 1) bs os h))

    pub all_hits : (v : ℕ) (bs : List Bound) → AllHits (hits n opaque s r ts v bs)
    all_hits v [] = tt
    all_hits v (b ∷ bs) = (one_hit v bs (hits n opaque s r ts (v + 1) bs) (all_hits (v + 1) bs), all_hits (v + 1) bs)

  -- a list of plain types
  pub each_ground : (vs : List Ty) → Each Plain vs → AreGround ds vs
  each_ground vs h = record { normal = all_normal vs h; known = all_known vs h }
    where
      all_normal : (vs : List Ty) → Each Plain vs → AllNormal n vs
      all_normal [] h = none
      all_normal (t ∷ ts) h = more t ts h.0.normal (all_normal ts h.1)

      all_known : (vs : List Ty) → Each Plain vs → list_all (is_known (length ds)) vs ≡ true
      all_known [] h = refl
      all_known (t ∷ ts) h = let a = h.0.known in let b = all_known ts h.1 in rw (a, b) refl

  each_closed : (vs : List Ty) → Each Plain vs → Each Closed vs
  each_closed [] h = tt
  each_closed (t ∷ ts) h = (h.0.closed, each_closed ts h.1)

  plain_at : (vs : List Ty) → Each Plain vs → (v : ℕ) → Plain (at vs v)
  plain_at [] h v = any_plain
  plain_at (t ∷ ts) h zero = h.0
  plain_at (t ∷ ts) h (suc v) = plain_at ts h.1 v

  each_snoc : (vs : List Ty) (t : Ty) → Each Plain vs → Plain t → Each Plain (vs ++ t ∷ [])
  each_snoc [] t h p = (p, tt)
  each_snoc (v ∷ vs) t h p = (h.0, each_snoc vs t h.1 p)

  top_puts : (s : Written) (r : Row) (v : ℕ) → IsKeptTop ds s r v → (vs : List Ty) → Each Plain vs → Plain (put (at vs) (top s r v))
  top_puts s r v k vs h =
      let g = top_ground ds s r v vs (each_ground vs h) k in
      record { normal = g.normal; known = g.known; closed = put_closed vs (each_closed vs h) (top s r v) }

  module _ (s : Written) (r : Row) (ts : List Ty) (kept : IsKeptRow ds s r) (types : AreConcrete ds ts) where
    fill_plain : (done : List Ty) (os : List (Option Ty)) → Each Plain done → AllHits os → length done + length os ≤ width s → Each Plain (filled n opaque s r ts done os)
    fill_plain done [] h k l = h
    fill_plain done (o ∷ os) h k l =
        let t = or_type o (put (at done) (top s r (length done))) in
        let p = or_plain o (put (at done) (top s r (length done))) k.0 (top_puts s r (length done) (kept.top (length done) (omega (arith, l))) done h) in
        fill_plain (done ++ t ∷ []) os (each_snoc done t h p) k.1 (omega (arith, l, long-snoc done t))

    -- each type found is plain
    pub found_plain : (v : ℕ) → Plain (found n opaque s r ts v)
    found_plain v =
        plain_at (filled n opaque s r ts [] (hits n opaque s r ts 0 s.vars))
        (fill_plain [] (hits n opaque s r ts 0 s.vars) tt (all_hits s r ts (types_plain ts types) 0 s.vars) (omega (arith, long_hits n opaque s r ts 0 s.vars))) v

  -- values that are what was found
  plain_normal : (vs : List Ty) → ((v : ℕ) → Plain (at vs v)) → AllNormal n vs
  plain_normal [] h = none
  plain_normal (t ∷ ts) h = more t ts (h 0).normal (plain_normal ts (λ v. h (suc v)))

  plain_known : (vs : List Ty) → ((v : ℕ) → Plain (at vs v)) → list_all (is_known (length ds)) vs ≡ true
  plain_known [] h = refl
  plain_known (t ∷ ts) h = let a = (h 0).known in let b = plain_known ts (λ v. h (suc v)) in rw (a, b) refl

  pub values_plain : (s : Written) (r : Row) (ts vs : List Ty) → IsKeptRow ds s r → AreConcrete ds ts → at vs ≡ found n opaque s r ts → (v : ℕ) → Plain (at vs v)
  values_plain s r ts vs kept types e v = subst (λ f. Plain (f v)) (sym e) (found_plain s r ts kept types v)

  pub values_ground : (s : Written) (r : Row) (ts vs : List Ty) → IsKeptRow ds s r → AreConcrete ds ts → at vs ≡ found n opaque s r ts → AreGround ds vs
  values_ground s r ts vs kept types e =
      let h = values_plain s r ts vs kept types e in
      record { normal = plain_normal vs h; known = plain_known vs h }
