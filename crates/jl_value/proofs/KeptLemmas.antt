-- The types that valid values keep are concrete normal types.
use Rattle.std.proofs.Common.{◌≡◌, ◌∙◌, sym, ap, subst, refl, ℕ, zero, suc, ◌*◌, ◌<◌, ◌≤◌, arith, Bool, true, false, ◌&&◌, nat_eq, List, [], ◌∷◌, map, length, get_or, Some, slice_get}
use Rattle.std.specs.List.{list_all, flat_map}
use Rattle.jl_model.specs.declared.ty.Ty.{Ty}
use Rattle.jl_model.specs.declared.ty.Ty.TheOpen.{Ty-F, Any, Union, Tuple, Nominal, Var}
use Rattle.jl_model.specs.declared.ty.Ty.TheViews.{out-Ty, outs-Tuple, outs-Nominal, rolls-Any, rolls-Union, rolls-Tuple, rolls-Nominal, rolls-Var}
use Rattle.jl_model.specs.declared.ty.Ty.TheViews as V
use Rattle.jl_model.specs.declared.ty.Ty.TheVariants as W
use Rattle.jl_model.specs.declared.ty.Ty.TheFolds.{fold-roll-Ty}
use Rattle.jl_model.specs.declared.ty.Decl.{Decl}
use Rattle.jl_model.specs.declared.ty.DeclKind.TheVariants.{Struct}
use Rattle.jl_model.specs.Ancestors.{table_of, named, builtin_types, plain_decl, is_struct_kind}
use Rattle.jl_model.specs.Rows.{vars_in}
use Rattle.jl_model.specs.Subtype.{Table, opaque, is_concrete, concrete_step}
use Rattle.jl_model.specs.Counts.{raw, product, greatest, nodes}
use Rattle.jl_model.specs.Normal.{AllNormal, is_single, no_union, nominal as normal_nominal, tuple as normal_tuple, none as no_normal, more as more_normal}
use Rattle.jl_model.specs.Valid.{is_counted, counted_step, params_of, is_closed}
use Rattle.jl_model.specs.Refusals.{Declared, builtin, added}
use Rattle.jl_model.proofs.TypeInduction.{Each, by_cases}
use Rattle.jl_model.proofs.FormLemmas.{is_union, all_of, vars-tuple, vars-nominal}
use Rattle.jl_model.proofs.AncestorLemmas.{slice_before, long-snoc, each_true, true_each}
use Rattle.jl_model.proofs.KnownLemmas.{Known, known_nominal, known_tuple}
use Rattle.jl_model.proofs.CountLemmas.{nodes-nominal, raw-tuple, raw-nominal}
use Rattle.jl_program.specs.declared.datum.Datum.{Datum}
use Rattle.jl_program.specs.declared.value.Value.{Value}
use Rattle.jl_program.specs.declared.value.Value.TheVariants as U
use Rattle.jl_program.specs.Meaning.{datum}
use Rattle.jl_program.specs.TypeOf.{type_of}
use Rattle.jl_types.specs.Ground.{IsGround}
use Rattle.jl_program.specs.ValidValue.{kept_step, kept_type, tuple_type, IsValueType, IsValid, AllValid, int, truth, nothing, task, tuple, made, none, more}
use Rattle.jl_value.proofs.ValueLemmas.{form, out_datum}

-- the type that a value keeps is its type
kept_form : (v : Value) → kept_step (form v) ≡ type_of v
kept_form (U.Int n) = refl
kept_form (U.Bool b) = refl
kept_form U.Nothing = refl
kept_form (U.Task n) = refl
kept_form (U.Tuple c) = refl
kept_form (U.Struct c) = refl

pub kept_is : (v : Value) → kept_type (datum v) ≡ type_of v
kept_is v = ap kept_step (out_datum v) ∙ kept_form v

pub kept_all : (vs : List Value) → map kept_type (map datum vs) ≡ map type_of vs
kept_all [] = refl
kept_all (v ∷ vs) = let e = kept_is v in let f = kept_all vs in cc

-- concrete types, form by form
module _ (n : Table) where
  abbrev Concrete : Ty → Type 0
  Concrete t = is_concrete n opaque t ≡ true

  concrete-any : is_concrete n opaque W.Any ≡ false
  concrete-any = ap (is_concrete n opaque) (sym rolls-Any) ∙ fold-roll-Ty Bool (concrete_step n opaque) Any

  concrete-union : (ts : List Ty) → is_concrete n opaque (V.Union ts) ≡ false
  concrete-union ts = ap (is_concrete n opaque) (sym (rolls-Union ts)) ∙ fold-roll-Ty Bool (concrete_step n opaque) (Union ts)

  concrete-tuple : (ts : List Ty) → is_concrete n opaque (V.Tuple ts) ≡ list_all (is_concrete n opaque) ts
  concrete-tuple ts = ap (is_concrete n opaque) (sym (rolls-Tuple ts)) ∙ fold-roll-Ty Bool (concrete_step n opaque) (Tuple ts) ∙ all_of (is_concrete n opaque) ts

  pub concrete-nominal : (k : ℕ) (ts : List Ty) → is_concrete n opaque (V.Nominal k ts) ≡ n.is_struct k
  concrete-nominal k ts = ap (is_concrete n opaque) (sym (rolls-Nominal k ts)) ∙ fold-roll-Ty Bool (concrete_step n opaque) (Nominal k ts)

  concrete-var : (v : ℕ) → is_concrete n opaque (W.Var v) ≡ false
  concrete-var v = ap (is_concrete n opaque) (sym (rolls-Var v)) ∙ fold-roll-Ty Bool (concrete_step n opaque) (Var v)

  single_form : (t : Ty) (x : Ty-F Ty) → out-Ty t ≡ x → Concrete t → is_single t ≡ true
  single_form t Any e h = ap no_union e
  single_form t (Tuple ts) e h = ap no_union e
  single_form t (Nominal k ts) e h = ap no_union e
  single_form t (Var v) e h = ap no_union e
  single_form t (Union ts) e h = let f : true ≡ false = sym h ∙ ap (is_concrete n opaque) (is_union t ts e) ∙ concrete-union ts in cc

  -- a concrete type is no union
  pub concrete_single : (t : Ty) → Concrete t → is_single t ≡ true
  concrete_single t h = single_form t (out-Ty t) refl h

  -- a concrete type has one raw alternative
  ones : (ts : List Ty) → Each (λ t. Concrete t → (raw t).count ≡ 1) ts → Each Concrete ts → product (map (λ r. r.count) (map raw ts)) ≡ 1
  ones [] e h = refl
  ones (t ∷ ts) e h = let p = e.0 h.0 in let q = ones ts e.1 h.1 in omega (arith, p, q, ap (λ k. k * product (map (λ r. r.count) (map raw ts))) p)

  concrete_one : (t : Ty) → Concrete t → (raw t).count ≡ 1
  concrete_one = by_cases (λ t. Concrete t → (raw t).count ≡ 1) (record {
    any = λ h. let f : true ≡ false = sym h ∙ concrete-any in cc;
    union = λ ts e h. let f : true ≡ false = sym h ∙ concrete-union ts in cc;
    tuple = λ ts e h. ap (λ r. r.count) (raw-tuple ts) ∙ ones ts e (true_each (is_concrete n opaque) ts (sym (concrete-tuple ts) ∙ h));
    nominal = λ k ts e h. ap (λ r. r.count) (raw-nominal k ts);
    var = λ v h. let f : true ≡ false = sym h ∙ concrete-var v in cc;
  })

  all_ones : (ts : List Ty) → Each Concrete ts → product (map (λ r. r.count) (map raw ts)) ≡ 1
  all_ones [] h = refl
  all_ones (t ∷ ts) h = let p = concrete_one t h.0 in let q = all_ones ts h.1 in omega (arith, p, q, ap (λ k. k * product (map (λ r. r.count) (map raw ts))) p)

counted-tuple : (ds : List Decl) (ts : List Ty) → is_counted ds (V.Tuple ts) ≡ list_all (is_counted ds) ts
counted-tuple ds ts = ap (is_counted ds) (sym (rolls-Tuple ts)) ∙ fold-roll-Ty Bool (counted_step ds) (Tuple ts) ∙ all_of (is_counted ds) ts

counted-named : (ds : List Decl) (k : ℕ) → is_counted ds (V.Nominal k []) ≡ (nat_eq 0 (length (params_of (slice_get ds k))) && true)
counted-named ds k = ap (is_counted ds) (sym (rolls-Nominal k [])) ∙ fold-roll-Ty Bool (counted_step ds) (Nominal k [])

pub closed_of : (t : Ty) → vars_in t ≡ [] → is_closed t ≡ true
closed_of t e = ap (λ vs. nat_eq (length vs) 0) e

of_closed : (t : Ty) → is_closed t ≡ true → vars_in t ≡ []
of_closed t h = no_vars (vars_in t) h
  where
    no_vars : (ns : List ℕ) → nat_eq (length ns) 0 ≡ true → ns ≡ []
    no_vars [] h = refl
    no_vars (n ∷ ns) h = let e : length (n ∷ ns) ≡ 0 = grind (arith, h) in absurd (omega arith)

-- the built-in types of values
begins : (ds : List Decl) → Declared ds → (8 ≤ length ds) × ((k : ℕ) → k < 8 → slice_get ds k ≡ slice_get builtin_types k)
begins ds builtin = (omega arith, λ k l. refl)
begins ds (added es d h r) = let p = begins es h in (omega (arith, long-snoc es d, p.0), λ k l. slice_before es d k (omega (arith, l, p.0)) ∙ p.1 k l)

leaf_type : (ds : List Decl) (k : ℕ) (name : List ℕ) (parent : Ty) → k < length ds → slice_get ds k ≡ Some (plain_decl name Struct parent) → IsValueType ds (named k)
unfolding table_of
leaf_type ds k name parent lt e =
    let n = table_of ds in
    let s : n.is_struct k ≡ true = ap is_struct_kind e in
    record {
      normal = normal_nominal (named k) k [] (outs-Nominal k []) no_normal;
      valid = record {
        known = known_nominal (length ds) k [] (grind (arith, lt)) tt;
        counted = counted-named ds k ∙ ap (λ o. nat_eq 0 (length (params_of o)) && true) e;
      };
      closed = closed_of (named k) (vars-nominal k []);
      concrete = concrete-nominal n k [] ∙ s;
      small = record {
        nodes = omega (arith, nodes-nominal k []);
        alternatives = let w = ap (λ r. r.widest) (raw-nominal k []) in omega (arith, w);
      };
    }

leaf : (ds : List Decl) → Declared ds → (k : ℕ) (name : List ℕ) (parent : Ty) → k < 8 → slice_get builtin_types k ≡ Some (plain_decl name Struct parent) → IsValueType ds (named k)
leaf ds h k name parent l e = let p = begins ds h in leaf_type ds k name parent (omega (arith, l, p.0)) (p.1 k l ∙ e)

-- tuples of these
each_normal : (ds : List Decl) (ts : List Ty) → Each (IsValueType ds) ts → AllNormal (table_of ds) ts
each_normal ds [] h = no_normal
each_normal ds (t ∷ ts) h = more_normal t ts h.0.normal (each_normal ds ts h.1)

each_of : (P Q : Ty → Type 0) → ((t : Ty) → P t → Q t) → (ts : List Ty) → Each P ts → Each Q ts
each_of P Q f [] h = tt
each_of P Q f (t ∷ ts) h = (f t h.0, each_of P Q f ts h.1)

no_vars_all : (ds : List Decl) (ts : List Ty) → Each (IsValueType ds) ts → flat_map vars_in ts ≡ []
no_vars_all ds [] h = refl
no_vars_all ds (t ∷ ts) h = let e = of_closed t h.0.closed in let f = no_vars_all ds ts h.1 in rw (e, f) refl

widest_all : (ds : List Decl) (ts : List Ty) → Each (IsValueType ds) ts → greatest (map (λ r. r.widest) (map raw ts)) ≤ 256
widest_all ds [] h = omega arith
widest_all ds (t ∷ ts) h = let p = h.0.small.alternatives in let q = widest_all ds ts h.1 in omega (arith, p, q)

pub tuple_kept : (ds : List Decl) (ts : List Ty) → Each (IsValueType ds) ts → nodes (V.Tuple ts) ≤ 1024 → IsValueType ds (V.Tuple ts)
tuple_kept ds ts h small =
    let n = table_of ds in
    let concrete = each_of (IsValueType ds) (Concrete n) (λ t p. p.concrete) ts h in
    let single = each_of (IsValueType ds) (λ t. is_single t ≡ true) (λ t p. concrete_single n t p.concrete) ts h in
    record {
      normal = normal_tuple (V.Tuple ts) ts (outs-Tuple ts) (each_normal ds ts h) (each_true is_single ts single);
      valid = record {
        known = known_tuple (length ds) ts (each_of (IsValueType ds) (Known (length ds)) (λ t p. p.valid.known) ts h);
        counted = counted-tuple ds ts ∙ each_true (is_counted ds) ts (each_of (IsValueType ds) (λ t. is_counted ds t ≡ true) (λ t p. p.valid.counted) ts h);
      };
      closed = closed_of (V.Tuple ts) (vars-tuple ts ∙ no_vars_all ds ts h);
      concrete = concrete-tuple n ts ∙ each_true (is_concrete n opaque) ts concrete;
      small = record {
        nodes = small;
        alternatives = let w = ap (λ r. r.widest) (raw-tuple ts) in let p = all_ones n ts concrete in let q = widest_all ds ts h in omega (arith, w, p, q);
      };
    }

-- the type of a valid value
module _ (ds : List Decl) (h : Declared ds) where
  mutual
    pub value_type : (d : Datum) → IsValid ds d → IsValueType ds (kept_type d)
    value_type d (int a n e) = subst (IsValueType ds) (sym (ap kept_step e)) (leaf ds h 4 _ _ (omega arith) refl)
    value_type d (truth a b e) = subst (IsValueType ds) (sym (ap kept_step e)) (leaf ds h 5 _ _ (omega arith) refl)
    value_type d (nothing a e) = subst (IsValueType ds) (sym (ap kept_step e)) (leaf ds h 6 _ _ (omega arith) refl)
    value_type d (task a n e) = subst (IsValueType ds) (sym (ap kept_step e)) (leaf ds h 7 _ _ (omega arith) refl)
    value_type d (tuple a t parts e v k s w) =
        let f : kept_type d ≡ tuple_type parts = ap kept_step e ∙ k in
        subst (IsValueType ds) (sym f) (tuple_kept ds (map kept_type parts) (value_types parts v) (subst (λ z. nodes z ≤ 1024) k s))
    value_type d (made a t parts e v k o w) = subst (IsValueType ds) (sym (ap kept_step e)) k.value_type

    pub value_types : (parts : List Datum) → AllValid ds parts → Each (IsValueType ds) (map kept_type parts)
    value_types parts none = tt
    value_types parts (more d ps p q) = (value_type d p, value_types ps q)

-- the type of a part
pub part_type : (ds : List Decl) → Declared ds → (vs : List Value) (i : ℕ) (v : Value) (t : Ty) → AllValid ds (map datum vs) → i < length vs → v ≡ get_or vs i v → t ≡ type_of v → IsValueType ds t
part_type ds h vs i v t a lt e f = subst (IsValueType ds) (kept_is v ∙ sym f) (go vs i (value_types ds h (map datum vs) a) lt e)
  where
    go : (vs : List Value) (i : ℕ) → Each (IsValueType ds) (map kept_type (map datum vs)) → i < length vs → v ≡ get_or vs i v → IsValueType ds (kept_type (datum v))
    go [] i a lt e = absurd (omega arith)
    go (w ∷ ws) zero a lt e = subst (λ z. IsValueType ds (kept_type (datum z))) (sym e) a.0
    go (w ∷ ws) (suc i) a lt e = go ws i a.1 (omega arith) e

pub ground_type : (ds : List Decl) (t : Ty) → IsValueType ds t → IsGround ds t
ground_type ds t h = record { normal = h.normal; known = h.valid.known }
