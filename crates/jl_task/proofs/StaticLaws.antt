-- What a body gets for the variables of its signature are types that static parameters may have: what is found in normal forms without variables,
-- and in the arguments of their ancestors, is such a form.
use Rattle.std.proofs.Common.{◌≡◌, ◌∙◌, refl, sym, ap, subst, ℕ, zero, suc, ◌+◌, arith, Bool, true, false, cond, nat_eq, IsTrue, List, [], ◌∷◌, ◌++◌, map, length, Option, None, Some}
use Rattle.std.specs.List.{flat_map}
use Rattle.jl_model.specs.declared.ty.Ty.{Ty, out-Ty}
use Rattle.jl_model.specs.declared.ty.Ty.TheOpen.{Ty-F, Any, Union, Tuple, Nominal, Var}
use Rattle.jl_model.specs.declared.ty.Ty.TheViews.{rolls-Any, rolls-Union, rolls-Tuple, rolls-Nominal, rolls-Var, outs-Any}
use Rattle.jl_model.specs.declared.ty.Ty.TheViews as V
use Rattle.jl_model.specs.declared.ty.Ty.TheVariants as W
use Rattle.jl_model.specs.declared.ty.Ty.TheFolds.{fold-roll-Ty, para-roll-Ty}
use Rattle.jl_model.specs.declared.ty.Bound.{Bound}
use Rattle.jl_model.specs.declared.ty.Decl.{Decl}
use Rattle.jl_model.specs.declared.ty.Written.{Written}
use Rattle.jl_model.specs.AllRows.{each_var}
use Rattle.jl_model.specs.Ancestors.{up_in, table_of}
use Rattle.jl_model.specs.Bindings.{binding, bindings, inner_found, outer_found}
use Rattle.jl_model.specs.Found.{or_else, or_type, or_none, first, raised, parts_of, arguments_of, ancestor, find_arg, find_arg_step, find_inner, find_inner_step, find_outer, find_outer_step}
use Rattle.jl_model.specs.Normal.{AllNormal, any, none, more}
use Rattle.jl_model.specs.Refusals.{Declared}
use Rattle.jl_model.specs.Rows.{vars_in}
use Rattle.jl_model.specs.Subtype.{opaque, put, at, put_in, lifted}
use Rattle.jl_model.specs.Usable.{is_usable}
use Rattle.jl_model.specs.Valid.{is_known, is_counted}
use Rattle.jl_model.proofs.TypeInduction.{Each, by_cases}
use Rattle.jl_model.proofs.FormLemmas.{is_nominal, is_tuple, put-any, put-union, put-tuple, put-nominal, put-var, vars-any, vars-union, vars-tuple, vars-nominal}
use Rattle.jl_model.proofs.FillLemmas.{ancestors_normal}
use Rattle.jl_model.proofs.KnownLemmas.{Known, known-any, tuple_known, nominal_known, put_all_known}
use Rattle.jl_model.proofs.DeclaredLemmas.{declared_lawful}
use Rattle.jl_model.proofs.NormalLemmas.{kids_nominal, kids_tuple}
use Rattle.jl_calculus.specs.ValidStart.{IsStaticType, AreStatics}
use Rattle.jl_task.proofs.FitLemmas.{Counted, Fits, counted-any, tuple_counted, nominal_counted, put_all_counted, ancestors_fit, map_each}

-- ---- types without variables

abbrev Closed : Ty → Type 0
Closed t = vars_in t ≡ []

none_in : (ns : List ℕ) → IsTrue (nat_eq (length ns) 0) → ns ≡ []
none_in [] h = refl
none_in (n ∷ ns) h = let e : length (n ∷ ns) ≡ 0 = grind (arith, h) in absurd (omega arith)

closed_in : (ns : List ℕ) → ns ≡ [] → IsTrue (nat_eq (length ns) 0)
closed_in ns e = ap (λ ms. nat_eq (length ms) 0) e

left_none : (ns ms : List ℕ) → ns ++ ms ≡ [] → ns ≡ []
left_none [] ms e = refl
left_none (n ∷ ns) ms e = cc

right_none : (ns ms : List ℕ) → ns ++ ms ≡ [] → ms ≡ []
right_none [] ms e = e
right_none (n ∷ ns) ms e = cc

each_closed : (ts : List Ty) → flat_map vars_in ts ≡ [] → Each Closed ts
each_closed [] e = tt
each_closed (t ∷ ts) e = (left_none (vars_in t) (flat_map vars_in ts) e, each_closed ts (right_none (vars_in t) (flat_map vars_in ts) e))

closed_flat : (ts : List Ty) → Each Closed ts → flat_map vars_in ts ≡ []
closed_flat [] e = refl
closed_flat (t ∷ ts) e = let p = e.0 in let q = closed_flat ts e.1 in rw (p, q) refl

at_closed : (xs : List Ty) (v : ℕ) → Each Closed xs → Closed (at xs v)
at_closed [] v e = vars-any
at_closed (x ∷ xs) zero e = e.0
at_closed (x ∷ xs) (suc v) e = at_closed xs v e.1

puts_closed : (xs ts : List Ty) → Each (λ t. Closed (put (at xs) t)) ts → Each Closed (map (put (at xs)) ts)
puts_closed xs [] e = tt
puts_closed xs (t ∷ ts) e = (e.0, puts_closed xs ts e.1)

put_closed : (xs : List Ty) → Each Closed xs → (t : Ty) → Closed (put (at xs) t)
put_closed xs e = by_cases (λ t. Closed (put (at xs) t)) (record {
  any = ap vars_in (put-any (at xs)) ∙ vars-any;
  union = λ ts f. ap vars_in (put-union (at xs) ts) ∙ vars-union (map (put (at xs)) ts) ∙ closed_flat (map (put (at xs)) ts) (puts_closed xs ts f);
  tuple = λ ts f. ap vars_in (put-tuple (at xs) ts) ∙ vars-tuple (map (put (at xs)) ts) ∙ closed_flat (map (put (at xs)) ts) (puts_closed xs ts f);
  nominal = λ k ts f. ap vars_in (put-nominal (at xs) k ts) ∙ vars-nominal k (map (put (at xs)) ts) ∙ closed_flat (map (put (at xs)) ts) (puts_closed xs ts f);
  var = λ v. ap vars_in (put-var (at xs) v) ∙ at_closed xs v e;
})

put_all_closed : (xs : List Ty) → Each Closed xs → (ts : List Ty) → Each Closed (map (put (at xs)) ts)
put_all_closed xs e [] = tt
put_all_closed xs e (t ∷ ts) = (put_closed xs e t, put_all_closed xs e ts)

-- ---- types of static parameters

module _ (ds : List Decl) where
  abbrev Static : Ty → Type 0
  Static t = IsStaticType ds t

  each_normal : (ts : List Ty) → Each Static ts → AllNormal (table_of ds) ts
  each_normal [] e = none
  each_normal (t ∷ ts) e = more t ts e.0.normal (each_normal ts e.1)

  each_known : (ts : List Ty) → Each Static ts → Each (Known (length ds)) ts
  each_known ts e = map_each Static (Known (length ds)) (λ t s. s.valid.known) ts e

  each_counted : (ts : List Ty) → Each Static ts → Each (Counted ds) ts
  each_counted ts e = map_each Static (Counted ds) (λ t s. s.valid.counted) ts e

  each_without : (ts : List Ty) → Each Static ts → Each Closed ts
  each_without ts e = map_each Static Closed (λ t s. none_in (vars_in t) s.closed) ts e

  statics_of : (ts : List Ty) → AllNormal (table_of ds) ts → Each (Known (length ds)) ts → Each (Counted ds) ts → Each Closed ts → Each Static ts
  statics_of ts none k c e = tt
  statics_of ts (more t us n ns) k c e =
      (record { normal = n; valid = record { known = k.0; counted = c.0 }; closed = closed_in (vars_in t) e.0 }, statics_of us ns k.1 c.1 e.1)

  any_static : Static W.Any
  any_static = record { normal = any W.Any outs-Any; valid = record { known = known-any (length ds); counted = counted-any ds }; closed = closed_in (vars_in W.Any) vars-any }

module _ (ds : List Decl) (declared : Declared ds) where
  abbrev S : Ty → Type 0
  S t = IsStaticType ds t

  tuple_parts : (t : Ty) (ts : List Ty) → out-Ty t ≡ Tuple ts → S t → Each S ts
  tuple_parts t ts o s =
      let is = is_tuple t ts o in
      statics_of ds ts (kids_tuple (table_of ds) (declared_lawful ds declared) t ts s.normal o) (tuple_known (length ds) ts (sym (ap (is_known (length ds)) is) ∙ s.valid.known))
      (tuple_counted ds ts (sym (ap (is_counted ds) is) ∙ s.valid.counted))
      (each_closed ts (sym (vars-tuple ts) ∙ sym (ap vars_in is) ∙ none_in (vars_in t) s.closed))

  nominal_arguments : (t : Ty) (k : ℕ) (ts : List Ty) → out-Ty t ≡ Nominal k ts → S t → Each S ts
  nominal_arguments t k ts o s =
      let is = is_nominal t k ts o in
      statics_of ds ts (kids_nominal (table_of ds) (declared_lawful ds declared) t k ts s.normal o) (nominal_known (length ds) k ts (sym (ap (is_known (length ds)) is) ∙ s.valid.known)).1
      (nominal_counted ds k ts (sym (ap (is_counted ds) is) ∙ s.valid.counted))
      (each_closed ts (sym (vars-nominal k ts) ∙ sym (ap vars_in is) ∙ none_in (vars_in t) s.closed))

  lifts : (k m : ℕ) (xs zs : List Ty) (b : Bool) (o : Option (List Ty)) → up_in ds k m ≡ o → cond b (Some xs) (put_in xs o) ≡ Some zs → Each S xs → Each S zs
  lifts k m xs zs true o u e s = let f : xs ≡ zs = cc in subst (Each S) f s
  lifts k m xs zs false None u e s = cc
  lifts k m xs zs false (Some ys) u e s =
      let f : map (put (at xs)) ys ≡ zs = cc in
      let fit = ancestors_fit ds declared k m ys u in
      subst (Each S) f
      (statics_of ds (map (put (at xs)) ys) (ancestors_normal ds declared k m ys xs u (each_normal ds xs s))
      (put_all_known (length ds) xs (each_known ds xs s) ys (map_each (Fits ds) (Known (length ds)) (λ t g. g.0) ys fit))
      (put_all_counted ds xs (each_counted ds xs s) ys (map_each (Fits ds) (Counted ds) (λ t g. g.1) ys fit))
      (put_all_closed xs (each_without ds xs s) ys))

  pub lifted_statics : (k m : ℕ) (xs zs : List Ty) → lifted (table_of ds) k xs m ≡ Some zs → Each S xs → Each S zs
  unfolding table_of
  lifted_statics k m xs zs e s = lifts k m xs zs (nat_eq k m) (up_in ds k m) refl e s

  -- what is found, if it is
  abbrev Right : Option Ty → Type 0
  Right None = Unit {0}
  Right (Some t) = S t

  abbrev Search : Type 0
  Search = Ty → Option Ty

  -- a search that finds only types of static parameters in such types
  abbrev Finds : Search → Type 0
  Finds f = (t : Ty) → S t → Right (f t)

  abbrev AllFind : List Search → Type 0
  AllFind [] = Unit {0}
  AllFind (f ∷ fs) = Finds f × AllFind fs

  either_right : (a b : Option Ty) → Right a → Right b → Right (or_else a b)
  either_right None b p q = q
  either_right (Some t) b p q = p

  first_right : (fs : List Search) (ts : List Ty) → AllFind fs → Each S ts → Right (first fs ts)
  first_right [] ts h s = tt
  first_right (f ∷ fs) [] h s = tt
  first_right (f ∷ fs) (t ∷ ts) h s = either_right (f t) (first fs ts) (h.0 t s.0) (first_right fs ts h.1 s.1)

  type_right : (o : Option Ty) (u : Ty) → Right o → S u → S (or_type o u)
  type_right None u h s = s
  type_right (Some t) u h s = h

  var_right : (b : Bool) (t : Ty) → S t → Right (cond b (Some t) None)
  var_right true t s = s
  var_right false t s = tt

  all_find : (f : Ty → Search) (ts : List Ty) → Each (λ t. Finds (f t)) ts → AllFind (map f ts)
  all_find f [] e = tt
  all_find f (t ∷ ts) e = (e.0, all_find f ts e.1)

  -- the parts and arguments of such types
  parts_static : (t : Ty) (x : Ty-F Ty) → out-Ty t ≡ x → S t → Each S (parts_of (raised opaque x))
  parts_static t Any o s = tt
  parts_static t (Union ts) o s = tt
  parts_static t (Tuple ts) o s = tuple_parts t ts o s
  parts_static t (Nominal k ts) o s = tt
  parts_static t (Var v) o s = subst (λ (x : Ty-F Ty). Each S (parts_of x)) (sym outs-Any) tt

  arguments_static : (t : Ty) (x : Ty-F Ty) → out-Ty t ≡ x → S t → Each S (arguments_of x)
  arguments_static t Any o s = tt
  arguments_static t (Union ts) o s = tt
  arguments_static t (Tuple ts) o s = tt
  arguments_static t (Nominal k ts) o s = nominal_arguments t k ts o s
  arguments_static t (Var v) o s = tt

  or_none_static : (o : Option (List Ty)) → ((zs : List Ty) → o ≡ Some zs → Each S zs) → Each S (or_none o)
  or_none_static None h = tt
  or_none_static (Some zs) h = h zs refl

  ancestor_static : (m : ℕ) (t : Ty) (x : Ty-F Ty) → out-Ty t ≡ x → S t → Each S (ancestor (table_of ds) m (raised opaque x))
  ancestor_static m t Any o s = tt
  ancestor_static m t (Union ts) o s = tt
  ancestor_static m t (Tuple ts) o s = tt
  ancestor_static m t (Nominal k xs) o s =
      or_none_static (lifted (table_of ds) k xs m) (λ zs e. lifted_statics k m xs zs e (nominal_arguments t k xs o s))
  ancestor_static m t (Var v) o s = subst (λ (x : Ty-F Ty). Each S (ancestor (table_of ds) m x)) (sym outs-Any) tt

  -- ---- the searches

  moved : (f g : Search) → f ≡ g → Finds g → Finds f
  moved f g e h t s = subst (λ (k : Search). Right (k t)) (sym e) (h t s)

  arg_finds : (v : ℕ) (u : Ty) → Finds (find_arg v u)
  arg_finds v = by_cases (λ u. Finds (find_arg v u)) (record {
    any = moved (find_arg v W.Any) (find_arg_step v Any) (ap (find_arg v) (sym rolls-Any) ∙ fold-roll-Ty Search (find_arg_step v) Any) (λ t s. tt);
    union = λ ts e. moved (find_arg v (V.Union ts)) (find_arg_step v (Union (map (find_arg v) ts))) (ap (find_arg v) (sym (rolls-Union ts)) ∙ fold-roll-Ty Search (find_arg_step v) (Union ts)) (λ t s. tt);
    tuple = λ ts e. moved (find_arg v (V.Tuple ts)) (find_arg_step v (Tuple (map (find_arg v) ts))) (ap (find_arg v) (sym (rolls-Tuple ts)) ∙ fold-roll-Ty Search (find_arg_step v) (Tuple ts)) (λ t s. tt);
    nominal = λ k ts e. moved (find_arg v (V.Nominal k ts)) (find_arg_step v (Nominal k (map (find_arg v) ts))) (ap (find_arg v) (sym (rolls-Nominal k ts)) ∙ fold-roll-Ty Search (find_arg_step v) (Nominal k ts))
        (λ t s. first_right (map (find_arg v) ts) (arguments_of (out-Ty t)) (all_find (find_arg v) ts e) (arguments_static t (out-Ty t) refl s));
    var = λ w. moved (find_arg v (W.Var w)) (find_arg_step v (Var w)) (ap (find_arg v) (sym (rolls-Var w)) ∙ fold-roll-Ty Search (find_arg_step v) (Var w)) (λ t s. var_right (nat_eq v w) t s);
  })

  outer_finds : (v : ℕ) (u : Ty) → Finds (find_outer opaque v u)
  outer_finds v = by_cases (λ u. Finds (find_outer opaque v u)) (record {
    any = moved (find_outer opaque v W.Any) (find_outer_step opaque v Any) (ap (find_outer opaque v) (sym rolls-Any) ∙ fold-roll-Ty Search (find_outer_step opaque v) Any) (λ t s. tt);
    union = λ ts e. moved (find_outer opaque v (V.Union ts)) (find_outer_step opaque v (Union (map (find_outer opaque v) ts)))
        (ap (find_outer opaque v) (sym (rolls-Union ts)) ∙ fold-roll-Ty Search (find_outer_step opaque v) (Union ts)) (λ t s. tt);
    tuple = λ ts e. moved (find_outer opaque v (V.Tuple ts)) (find_outer_step opaque v (Tuple (map (find_outer opaque v) ts)))
        (ap (find_outer opaque v) (sym (rolls-Tuple ts)) ∙ fold-roll-Ty Search (find_outer_step opaque v) (Tuple ts))
        (λ t s. first_right (map (find_outer opaque v) ts) (parts_of (raised opaque (out-Ty t))) (all_find (find_outer opaque v) ts e) (parts_static t (out-Ty t) refl s));
    nominal = λ k ts e. moved (find_outer opaque v (V.Nominal k ts)) (find_outer_step opaque v (Nominal k (map (find_outer opaque v) ts)))
        (ap (find_outer opaque v) (sym (rolls-Nominal k ts)) ∙ fold-roll-Ty Search (find_outer_step opaque v) (Nominal k ts)) (λ t s. tt);
    var = λ w. moved (find_outer opaque v (W.Var w)) (find_outer_step opaque v (Var w)) (ap (find_outer opaque v) (sym (rolls-Var w)) ∙ fold-roll-Ty Search (find_outer_step opaque v) (Var w))
        (λ t s. var_right (nat_eq v w) t s);
  })

  abbrev inner_of : ℕ → Ty → Search
  inner_of v = find_inner (table_of ds) opaque v

  abbrev inner_with : ℕ → Ty → Ty × Search
  inner_with v u = (u, inner_of v u)

  -- the searches in the arguments of a list of types, and those in its parts
  args_find : (v : ℕ) (ts : List Ty) → AllFind (map (λ (e : Ty × Search). find_arg v e.0) (map (inner_with v) ts))
  args_find v [] = tt
  args_find v (t ∷ ts) = (arg_finds v t, args_find v ts)

  inners_find : (v : ℕ) (ts : List Ty) → Each (λ u. Finds (inner_of v u)) ts → AllFind (map (λ (e : Ty × Search). e.1) (map (inner_with v) ts))
  inners_find v [] h = tt
  inners_find v (t ∷ ts) h = (h.0, inners_find v ts h.1)

  inner_finds : (v : ℕ) (u : Ty) → Finds (inner_of v u)
  inner_finds v =
      let n = table_of ds in
      by_cases (λ u. Finds (inner_of v u)) (record {
        any = moved (inner_of v W.Any) (find_inner_step n opaque v Any) (ap (inner_of v) (sym rolls-Any) ∙ para-roll-Ty Search (find_inner_step n opaque v) Any) (λ t s. tt);
        union = λ ts e. moved (inner_of v (V.Union ts)) (find_inner_step n opaque v (Union (map (inner_with v) ts)))
            (ap (inner_of v) (sym (rolls-Union ts)) ∙ para-roll-Ty Search (find_inner_step n opaque v) (Union ts)) (λ t s. tt);
        tuple = λ ts e. moved (inner_of v (V.Tuple ts)) (find_inner_step n opaque v (Tuple (map (inner_with v) ts)))
            (ap (inner_of v) (sym (rolls-Tuple ts)) ∙ para-roll-Ty Search (find_inner_step n opaque v) (Tuple ts))
            (λ t s. first_right (map (λ (e : Ty × Search). e.1) (map (inner_with v) ts)) (parts_of (raised opaque (out-Ty t))) (inners_find v ts e) (parts_static t (out-Ty t) refl s));
        nominal = λ k ts e. moved (inner_of v (V.Nominal k ts)) (find_inner_step n opaque v (Nominal k (map (inner_with v) ts)))
            (ap (inner_of v) (sym (rolls-Nominal k ts)) ∙ para-roll-Ty Search (find_inner_step n opaque v) (Nominal k ts))
            (λ t s. first_right (map (λ (e : Ty × Search). find_arg v e.0) (map (inner_with v) ts)) (ancestor n k (raised opaque (out-Ty t))) (args_find v ts) (ancestor_static k t (out-Ty t) refl s));
        var = λ w. moved (inner_of v (W.Var w)) (find_inner_step n opaque v (Var w)) (ap (inner_of v) (sym (rolls-Var w)) ∙ para-roll-Ty Search (find_inner_step n opaque v) (Var w)) (λ t s. tt);
      })

  -- ---- the types for the variables of a signature

  each_arg : (f : ℕ → Ty → Search) → ((v : ℕ) (u : Ty) → Finds (f v u)) → (v : ℕ) (us : List Ty) → AllFind (map (f v) us)
  each_arg f h v [] = tt
  each_arg f h v (u ∷ us) = (h v u, each_arg f h v us)

  cond_static : (b : Bool) (t : Ty) → S t → S (cond b t W.Any)
  cond_static true t s = s
  cond_static false t s = any_static ds

  binding_static : (s : Written) (ts : List Ty) → Each S ts → (v : ℕ) → S (binding (table_of ds) s ts v)
  binding_static s ts h v =
      cond_static (is_usable s v) (or_type (or_else (inner_found (table_of ds) s ts v) (outer_found s ts v)) W.Any)
      (type_right (or_else (inner_found (table_of ds) s ts v) (outer_found s ts v)) W.Any
      (either_right (inner_found (table_of ds) s ts v) (outer_found s ts v)
      (first_right (map (inner_of v) s.parts) ts (each_arg inner_of inner_finds v s.parts) h)
      (first_right (map (find_outer opaque v) s.parts) ts (each_arg (find_outer opaque) outer_finds v s.parts) h))
      (any_static ds))

  one_static : (b : Bool) (bs : List Bool) (t : Ty) (ts : List Ty) → S t → AreStatics ds bs ts → AreStatics ds (b ∷ bs) (t ∷ ts)
  one_static true bs t ts s h = (s, h)
  one_static false bs t ts s h = h

  each_binding : (usable : ℕ → Bool) (f : ℕ → Ty) → ((v : ℕ) → S (f v)) → (i : ℕ) (bs : List Bound) → AreStatics ds (each_var usable i bs) (each_var f i bs)
  each_binding usable f h i [] = tt
  each_binding usable f h i (b ∷ bs) = one_static (usable i) (each_var usable (i + 1) bs) (f i) (each_var f (i + 1) bs) (h i) (each_binding usable f h (i + 1) bs)

  -- The types that a body gets for the variables of its signature may be those of static parameters, where those of the arguments may.
  pub bindings_are_statics : (s : Written) (ts : List Ty) → Each S ts → AreStatics ds (each_var (is_usable s) 0 s.vars) (bindings (table_of ds) s ts)
  bindings_are_statics s ts h = each_binding (is_usable s) (binding (table_of ds) s ts) (binding_static s ts h) 0 s.vars
