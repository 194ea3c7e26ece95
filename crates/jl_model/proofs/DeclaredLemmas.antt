-- The tables of valid declarations are lawful.
use Rattle.std.proofs.Common.{◌≡◌, ◌∙◌, sym, ap, subst, refl, ℕ, ◌+◌, ◌<◌, arith, Bool, true, false, ◌&&◌, not, nat_eq, nat_lt, List, [], ◌∷◌, ◌++◌, map, length, Option, None, Some, slice_get, append_assoc, append-nil}
use Rattle.std.specs.List.{flat_map, list_all}
use Rattle.std.proofs.lemmas.List.{length-map}
use Rattle.jl_model.specs.declared.ty.Ty.{Ty, out-Ty}
use Rattle.jl_model.specs.declared.ty.Ty.TheOpen.{Ty-F, Any, Union, Tuple, Nominal, Var}
use Rattle.jl_model.specs.declared.ty.Ty.TheViews.{roll-Ty, rolls-Any, rolls-Union, rolls-Tuple, rolls-Nominal, rolls-Var, outs-Any, outs-Nominal}
use Rattle.jl_model.specs.declared.ty.Ty.TheViews as V
use Rattle.jl_model.specs.declared.ty.Ty.TheVariants as W
use Rattle.jl_model.specs.declared.ty.Ty.TheFolds.{fold-roll-Ty, para-roll-Ty}
use Rattle.jl_model.specs.declared.ty.Decl.{Decl}
use Rattle.jl_model.specs.Rows.{vars_in}
use Rattle.jl_model.specs.Ancestors.{builtin_types, named, table_of}
use Rattle.jl_model.specs.Valid.{names_in, names_step, is_known, is_counted, counted_step, is_closed, params_of}
use Rattle.jl_model.specs.Kept.{field_types}
use Rattle.jl_model.specs.Refusals.{types_of, bound_types, is_free_of, free_step, is_placed, placed_step, is_known_decl, is_placed_decl, own, IsAllowed, Declared, builtin, added}
use Rattle.jl_model.proofs.TypeInduction.{Each, by_cases}
use Rattle.jl_model.proofs.FormLemmas.{is_nominal, all_of, all_firsts, all_seconds, flat_of, vars-any, vars-union, vars-tuple, vars-nominal}
use Rattle.jl_model.proofs.PutLemmas.{is_pattern, is_empty, pattern-any, pattern-union, pattern-tuple, pattern-nominal, pattern-var, and_l, and_r, both_true}
use Rattle.jl_model.proofs.AncestorLemmas.{Lawful, lawful_lines, counted, parent_case, parent_fits, all_fit, slice_before, Parents, AllParents, IsPattern}

pub not_false : (b : Bool) → (b ≡ false → ⊥) → b ≡ true
not_false true h = refl
not_false false h = absurd (h refl)

-- the equations
pub free-union : (m : ℕ) (ts : List Ty) → is_free_of m (V.Union ts) ≡ list_all (is_free_of m) ts
free-union m ts = ap (is_free_of m) (sym (rolls-Union ts)) ∙ fold-roll-Ty Bool (free_step m) (Union ts) ∙ all_of (is_free_of m) ts

pub free-tuple : (m : ℕ) (ts : List Ty) → is_free_of m (V.Tuple ts) ≡ list_all (is_free_of m) ts
free-tuple m ts = ap (is_free_of m) (sym (rolls-Tuple ts)) ∙ fold-roll-Ty Bool (free_step m) (Tuple ts) ∙ all_of (is_free_of m) ts

pub free-nominal : (m k : ℕ) (ts : List Ty) → is_free_of m (V.Nominal k ts) ≡ (not (nat_eq k m) && list_all (is_free_of m) ts)
free-nominal m k ts = ap (is_free_of m) (sym (rolls-Nominal k ts)) ∙ fold-roll-Ty Bool (free_step m) (Nominal k ts) ∙ ap (λ b. not (nat_eq k m) && b) (all_of (is_free_of m) ts)

pub free-var : (m v : ℕ) → is_free_of m (W.Var v) ≡ false
free-var m v = ap (is_free_of m) (sym (rolls-Var v)) ∙ fold-roll-Ty Bool (free_step m) (Var v)

pub placed-union : (m : ℕ) (ts : List Ty) → is_placed m (V.Union ts) ≡ list_all (is_free_of m) ts
placed-union m ts = ap (is_placed m) (sym (rolls-Union ts)) ∙ para-roll-Ty Bool (placed_step m) (Union ts) ∙ all_firsts (is_placed m) (is_free_of m) ts

pub placed-tuple : (m : ℕ) (ts : List Ty) → is_placed m (V.Tuple ts) ≡ list_all (is_free_of m) ts
placed-tuple m ts = ap (is_placed m) (sym (rolls-Tuple ts)) ∙ para-roll-Ty Bool (placed_step m) (Tuple ts) ∙ all_firsts (is_placed m) (is_free_of m) ts

pub placed-nominal : (m k : ℕ) (ts : List Ty) → is_placed m (V.Nominal k ts) ≡ list_all (is_placed m) ts
placed-nominal m k ts = ap (is_placed m) (sym (rolls-Nominal k ts)) ∙ para-roll-Ty Bool (placed_step m) (Nominal k ts) ∙ all_seconds (is_placed m) ts

counted-nominal : (ds : List Decl) (k : ℕ) (ts : List Ty) → is_counted ds (V.Nominal k ts) ≡ (nat_eq (length ts) (length (params_of (slice_get ds k))) && list_all (is_counted ds) ts)
counted-nominal ds k ts =
    ap (is_counted ds) (sym (rolls-Nominal k ts)) ∙ fold-roll-Ty Bool (counted_step ds) (Nominal k ts)
    ∙ ap (λ b. nat_eq (length (map (is_counted ds) ts)) (length (params_of (slice_get ds k))) && b) (all_of (is_counted ds) ts)
    ∙ ap (λ i. nat_eq i (length (params_of (slice_get ds k))) && list_all (is_counted ds) ts) (length-map ts (is_counted ds))

names-nominal : (k : ℕ) (ts : List Ty) → names_in (V.Nominal k ts) ≡ k ∷ flat_map names_in ts
names-nominal k ts = ap names_in (sym (rolls-Nominal k ts)) ∙ fold-roll-Ty (List ℕ) names_step (Nominal k ts) ∙ ap (λ ks. k ∷ ks) (flat_of names_in ts)

-- what is free of variables is closed
free_all : (m : ℕ) (ts : List Ty) → Each (λ t. is_free_of m t ≡ true → vars_in t ≡ []) ts → list_all (is_free_of m) ts ≡ true → flat_map vars_in ts ≡ []
free_all m [] e h = refl
free_all m (t ∷ ts) e h =
    let p = e.0 (and_l (is_free_of m t) (list_all (is_free_of m) ts) h) in
    let q = free_all m ts e.1 (and_r (is_free_of m t) (list_all (is_free_of m) ts) h) in
    rw (p, q) refl

pub free_closed : (m : ℕ) (t : Ty) → is_free_of m t ≡ true → vars_in t ≡ []
free_closed m = by_cases (λ t. is_free_of m t ≡ true → vars_in t ≡ []) (record {
  any = λ h. vars-any;
  union = λ ts e h. vars-union ts ∙ free_all m ts e (sym (free-union m ts) ∙ h);
  tuple = λ ts e h. vars-tuple ts ∙ free_all m ts e (sym (free-tuple m ts) ∙ h);
  nominal = λ k ts e h. vars-nominal k ts ∙ free_all m ts e (and_r (not (nat_eq k m)) (list_all (is_free_of m) ts) (sym (free-nominal m k ts) ∙ h));
  var = λ v h. let f : false ≡ true = sym (free-var m v) ∙ h in cc;
})

each_free : (m : ℕ) (ts : List Ty) → list_all (is_free_of m) ts ≡ true → flat_map vars_in ts ≡ []
each_free m [] h = refl
each_free m (t ∷ ts) h =
    let p = free_closed m t (and_l (is_free_of m t) (list_all (is_free_of m) ts) h) in
    let q = each_free m ts (and_r (is_free_of m t) (list_all (is_free_of m) ts) h) in
    rw (p, q) refl

placed_all : (m : ℕ) (ts : List Ty) → Each (λ t. is_placed m t ≡ true → is_pattern t ≡ true) ts → list_all (is_placed m) ts ≡ true → list_all is_pattern ts ≡ true
placed_all m [] e h = refl
placed_all m (t ∷ ts) e h =
    both_true (is_pattern t) (list_all is_pattern ts) (e.0 (and_l (is_placed m t) (list_all (is_placed m) ts) h)) (placed_all m ts e.1 (and_r (is_placed m t) (list_all (is_placed m) ts) h))

placed_pattern : (m : ℕ) (t : Ty) → is_placed m t ≡ true → is_pattern t ≡ true
placed_pattern m = by_cases (λ t. is_placed m t ≡ true → is_pattern t ≡ true) (record {
  any = λ h. pattern-any;
  union = λ ts e h. pattern-union ts ∙ ap is_empty (each_free m ts (sym (placed-union m ts) ∙ h));
  tuple = λ ts e h. pattern-tuple ts ∙ ap is_empty (each_free m ts (sym (placed-tuple m ts) ∙ h));
  nominal = λ k ts e h. pattern-nominal k ts ∙ placed_all m ts e (sym (placed-nominal m k ts) ∙ h);
  var = λ v h. pattern-var v;
})

all_at_middle : (p : Ty → Bool) (ts us : List Ty) (t : Ty) → list_all p (ts ++ t ∷ us) ≡ true → p t ≡ true
all_at_middle p [] us t h = and_l (p t) (list_all p us) h
all_at_middle p (s ∷ ts) us t h = all_at_middle p ts us t (and_r (p s) (list_all p (ts ++ t ∷ us)) h)

count_known : (o : Option Decl) (ys : List Ty) → nat_eq (length ys) (length (params_of o)) ≡ true → counted o ys ≡ true
count_known None ys h = refl
count_known (Some d) ys h = h

below_of : (a b : ℕ) → nat_lt a b ≡ true → a < b
below_of a b h = grind (arith, h)

-- a declaration whose parent is known, has the declared number of arguments and has its variables placed
module _ (ds : List Decl) (d : Decl) (known : is_known (length ds) d.parent ≡ true) (count : is_counted (ds ++ d ∷ []) d.parent ≡ true) (placed : is_placed (length ds) d.parent ≡ true) where
  fits_case : (x : Ty-F Ty) → out-Ty d.parent ≡ x → parent_case ds x ≡ true
  fits_case Any e = refl
  fits_case (Union ts) e = refl
  fits_case (Tuple ts) e = refl
  fits_case (Var v) e = refl
  fits_case (Nominal p ys) e =
      let is = is_nominal d.parent p ys e in
      let k : list_all (λ j. nat_lt j (length ds)) (p ∷ flat_map names_in ys) ≡ true = ap (list_all (λ j. nat_lt j (length ds))) (sym (ap names_in is ∙ names-nominal p ys)) ∙ known in
      let near : p < length ds = below_of p (length ds) (and_l (nat_lt p (length ds)) (list_all (λ j. nat_lt j (length ds)) (flat_map names_in ys)) k) in
      let c : (nat_eq (length ys) (length (params_of (slice_get (ds ++ d ∷ []) p))) && list_all (is_counted (ds ++ d ∷ [])) ys) ≡ true
      = sym (ap (is_counted (ds ++ d ∷ [])) is ∙ counted-nominal (ds ++ d ∷ []) p ys) ∙ count in
      let c1 = and_l (nat_eq (length ys) (length (params_of (slice_get (ds ++ d ∷ []) p)))) (list_all (is_counted (ds ++ d ∷ [])) ys) c in
      let c2 : nat_eq (length ys) (length (params_of (slice_get ds p))) ≡ true = ap (λ o. nat_eq (length ys) (length (params_of o))) (sym (slice_before ds d p near)) ∙ c1 in
      count_known (slice_get ds p) ys c2

  pub head_patterns : Parents IsPattern d
  head_patterns p ys e =
      let is = is_nominal d.parent p ys e in
      patterns ys (sym (ap (is_placed (length ds)) is ∙ placed-nominal (length ds) p ys) ∙ placed)
    where
      patterns : (ts : List Ty) → list_all (is_placed (length ds)) ts ≡ true → Each IsPattern ts
      patterns [] h = tt
      patterns (t ∷ ts) h = (
        placed_pattern (length ds) t (and_l (is_placed (length ds) t) (list_all (is_placed (length ds)) ts) h),
        patterns ts (and_r (is_placed (length ds) t) (list_all (is_placed (length ds)) ts) h),
      )

  pub head_fits : parent_fits ds d ≡ true
  head_fits = fits_case (out-Ty d.parent) refl

module _ (ds : List Decl) (d : Decl) (ok : IsAllowed ds d) where
  all_counted : list_all (is_counted (ds ++ d ∷ [])) (types_of d) ≡ true
  all_counted = not_false (list_all (is_counted (ds ++ d ∷ [])) (types_of d)) ok.counted

  parent_counted : is_counted (ds ++ d ∷ []) d.parent ≡ true
  parent_counted = all_at_middle (is_counted (ds ++ d ∷ [])) (bound_types d.params) (field_types d.fields) d.parent all_counted

  pub parent_known : is_known (length ds) d.parent ≡ true
  parent_known =
      and_r (list_all (is_known (length ds)) (bound_types d.params)) (is_known (length ds) d.parent)
      (and_l (list_all (is_known (length ds)) (bound_types d.params) && is_known (length ds) d.parent) (list_all (is_known (length ds + own d.kind)) (field_types d.fields))
      (not_false (is_known_decl ds d) ok.known))

  parent_placed : is_placed (length ds) d.parent ≡ true
  parent_placed = let h = not_false (is_placed_decl ds d) ok.placed in
      and_r (list_all is_closed (bound_types d.params)) (is_placed (length ds) d.parent)
      (and_l (list_all is_closed (bound_types d.params) && is_placed (length ds) d.parent) _ h)

  pub allowed_patterns : Parents IsPattern d
  allowed_patterns = head_patterns ds d parent_known parent_counted parent_placed

  pub allowed_fits : parent_fits ds d ≡ true
  allowed_fits = head_fits ds d parent_known parent_counted parent_placed

fit_snoc : (ds es : List Decl) (d : Decl) → all_fit ds es ≡ true → parent_fits (ds ++ es) d ≡ true → all_fit ds (es ++ d ∷ []) ≡ true
fit_snoc ds [] d h f = both_true (parent_fits ds d) true (ap (λ z. parent_fits z d) (sym (append-nil ds)) ∙ f) refl
fit_snoc ds (e ∷ es) d h f =
    both_true (parent_fits ds e) (all_fit (ds ++ e ∷ []) (es ++ d ∷ [])) (and_l (parent_fits ds e) (all_fit (ds ++ e ∷ []) es) h)
    (fit_snoc (ds ++ e ∷ []) es d (and_r (parent_fits ds e) (all_fit (ds ++ e ∷ []) es) h) (ap (λ z. parent_fits z d) (append_assoc ds (e ∷ []) es) ∙ f))

pub builtins_fit : all_fit [] builtin_types ≡ true
builtins_fit = simp (outs-Any, outs-Nominal)

pub declared_fit : (ds : List Decl) → Declared ds → all_fit [] ds ≡ true
declared_fit ds builtin = builtins_fit
declared_fit ds (added es d h r) = fit_snoc [] es d (declared_fit es h) (allowed_fits es d r.allowed)

pub parents_snoc : (R : Ty → Type 0) (ds : List Decl) (d : Decl) → AllParents R ds → Parents R d → AllParents R (ds ++ d ∷ [])
parents_snoc R [] d h q = (q, tt)
parents_snoc R (e ∷ ds) d h q = (h.0, parents_snoc R ds d h.1 q)

-- the built-in types have no arguments
any_parents : (R : Ty → Type 0) (p : ℕ) (ys : List Ty) → out-Ty W.Any ≡ Nominal p ys → Each R ys
any_parents R p ys e = let f : Any ≡ Nominal p ys = sym outs-Any ∙ e in cc

named_parents : (R : Ty → Type 0) (k p : ℕ) (ys : List Ty) → out-Ty (named k) ≡ Nominal p ys → Each R ys
named_parents R k p ys e =
    let f : Nominal k [] ≡ Nominal p ys = sym (outs-Nominal k []) ∙ e in
    let g : [] ≡ ys = cc in
    subst (Each R) g tt

pub builtin_parents : (R : Ty → Type 0) → AllParents R builtin_types
builtin_parents R =
    (any_parents R, (named_parents R 0, (named_parents R 1, (named_parents R 2, (named_parents R 3, (named_parents R 2, (any_parents R, (any_parents R, tt))))))))

declared_patterns : (ds : List Decl) → Declared ds → AllParents IsPattern ds
declared_patterns ds builtin = builtin_parents IsPattern
declared_patterns ds (added es d h r) = parents_snoc IsPattern es d (declared_patterns es h) (allowed_patterns es d r.allowed)

pub declared_lawful : (ds : List Decl) → Declared ds → Lawful (table_of ds)
declared_lawful ds h = lawful_lines ds (declared_fit ds h) (declared_patterns ds h)

-- one more declaration
pub next_fit : (ds : List Decl) (d : Decl) → Declared ds → is_known (length ds) d.parent ≡ true → is_counted (ds ++ d ∷ []) d.parent ≡ true → is_placed (length ds) d.parent ≡ true → all_fit [] (ds ++ d ∷ []) ≡ true
next_fit ds d h k c p = fit_snoc [] ds d (declared_fit ds h) (head_fits ds d k c p)

pub next_lawful : (ds : List Decl) (d : Decl) → Declared ds → is_known (length ds) d.parent ≡ true → is_counted (ds ++ d ∷ []) d.parent ≡ true → is_placed (length ds) d.parent ≡ true → Lawful (table_of (ds ++ d ∷ []))
next_lawful ds d h k c p = lawful_lines (ds ++ d ∷ []) (next_fit ds d h k c p) (parents_snoc IsPattern ds d (declared_patterns ds h) (head_patterns ds d k c p))
