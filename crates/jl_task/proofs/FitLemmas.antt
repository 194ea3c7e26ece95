-- The arguments of the ancestors of a type are types of the table, with the declared numbers of arguments, where those of the type are.
use Rattle.std.proofs.Common.{◌≡◌, ◌∙◌, refl, sym, ap, subst, ℕ, zero, suc, ◌+◌, ◌<◌, arith, Bool, true, ◌&&◌, nat_eq, nat_lt, List, [], ◌∷◌, ◌++◌, map, length, Some, slice_get}
use Rattle.std.specs.List.{list_all}
use Rattle.std.proofs.lemmas.List.{length-map}
use Rattle.jl_model.specs.declared.ty.Ty.{Ty}
use Rattle.jl_model.specs.declared.ty.Ty.TheOpen.{Any, Union, Tuple, Nominal, Var}
use Rattle.jl_model.specs.declared.ty.Ty.TheViews.{rolls-Any, rolls-Union, rolls-Tuple, rolls-Nominal, rolls-Var, outs-Any}
use Rattle.jl_model.specs.declared.ty.Ty.TheViews as V
use Rattle.jl_model.specs.declared.ty.Ty.TheVariants as W
use Rattle.jl_model.specs.declared.ty.Ty.TheFolds.{fold-roll-Ty}
use Rattle.jl_model.specs.declared.ty.Decl.{Decl}
use Rattle.jl_model.specs.Ancestors.{builtin_types, up_in}
use Rattle.jl_model.specs.Refusals.{Declared, builtin, added, IsAllowed, types_of, bound_types}
use Rattle.jl_model.specs.Kept.{field_types}
use Rattle.jl_model.specs.Subtype.{put, at}
use Rattle.jl_model.specs.Valid.{is_known, is_counted, counted_step, params_of}
use Rattle.jl_model.proofs.TypeInduction.{Each, by_cases}
use Rattle.jl_model.proofs.FormLemmas.{is_nominal, all_of, put-any, put-union, put-tuple, put-nominal, put-var}
use Rattle.jl_model.proofs.PutLemmas.{and_l, and_r, both_true}
use Rattle.jl_model.proofs.AncestorLemmas.{Parents, AllParents, IsKeptByPut, true_each, each_true, up_good, slice_before, long-snoc}
use Rattle.jl_model.proofs.DeclaredLemmas.{not_false, declared_fit, builtin_parents, parents_snoc, parent_known}
use Rattle.jl_model.proofs.KnownLemmas.{Known, known_kept, union_known, tuple_known, nominal_known}

-- ---- the declared number of arguments

module _ (ds : List Decl) where
  abbrev pub Counted : Ty → Type 0
  Counted t = is_counted ds t ≡ true

  pub counted-any : Counted W.Any
  counted-any = ap (is_counted ds) (sym rolls-Any) ∙ fold-roll-Ty Bool (counted_step ds) Any

  counted-var : (v : ℕ) → Counted (W.Var v)
  counted-var v = ap (is_counted ds) (sym (rolls-Var v)) ∙ fold-roll-Ty Bool (counted_step ds) (Var v)

  counted-union : (ts : List Ty) → is_counted ds (V.Union ts) ≡ list_all (is_counted ds) ts
  counted-union ts = ap (is_counted ds) (sym (rolls-Union ts)) ∙ fold-roll-Ty Bool (counted_step ds) (Union ts) ∙ all_of (is_counted ds) ts

  counted-tuple : (ts : List Ty) → is_counted ds (V.Tuple ts) ≡ list_all (is_counted ds) ts
  counted-tuple ts = ap (is_counted ds) (sym (rolls-Tuple ts)) ∙ fold-roll-Ty Bool (counted_step ds) (Tuple ts) ∙ all_of (is_counted ds) ts

  abbrev has_arity : ℕ → ℕ → Bool
  has_arity k i = nat_eq i (length (params_of (slice_get ds k)))

  counted-nominal : (k : ℕ) (ts : List Ty) → is_counted ds (V.Nominal k ts) ≡ (has_arity k (length ts) && list_all (is_counted ds) ts)
  counted-nominal k ts =
      ap (is_counted ds) (sym (rolls-Nominal k ts)) ∙ fold-roll-Ty Bool (counted_step ds) (Nominal k ts)
      ∙ ap (λ b. has_arity k (length (map (is_counted ds) ts)) && b) (all_of (is_counted ds) ts)
      ∙ ap (λ i. has_arity k i && list_all (is_counted ds) ts) (length-map ts (is_counted ds))

  pub tuple_counted : (ts : List Ty) → Counted (V.Tuple ts) → Each Counted ts
  tuple_counted ts h = true_each (is_counted ds) ts (sym (counted-tuple ts) ∙ h)

  pub nominal_counted : (k : ℕ) (ts : List Ty) → Counted (V.Nominal k ts) → Each Counted ts
  nominal_counted k ts h = true_each (is_counted ds) ts (and_r (has_arity k (length ts)) (list_all (is_counted ds) ts) (sym (counted-nominal k ts) ∙ h))

  arity_of : (k : ℕ) (ts : List Ty) → Counted (V.Nominal k ts) → has_arity k (length ts) ≡ true
  arity_of k ts h = and_l (has_arity k (length ts)) (list_all (is_counted ds) ts) (sym (counted-nominal k ts) ∙ h)

  counted_nominal : (k : ℕ) (ts : List Ty) → has_arity k (length ts) ≡ true → Each Counted ts → Counted (V.Nominal k ts)
  counted_nominal k ts h e = counted-nominal k ts ∙ both_true (has_arity k (length ts)) (list_all (is_counted ds) ts) h (each_true (is_counted ds) ts e)

  -- types put in
  at_counted : (ys : List Ty) (v : ℕ) → Each Counted ys → Counted (at ys v)
  at_counted [] v e = counted-any
  at_counted (y ∷ ys) zero e = e.0
  at_counted (y ∷ ys) (suc v) e = at_counted ys v e.1

  puts_counted : (ys ts : List Ty) → Each (λ t. Counted t → Counted (put (at ys) t)) ts → Each Counted ts → Each Counted (map (put (at ys)) ts)
  puts_counted ys [] h e = tt
  puts_counted ys (t ∷ ts) h e = (h.0 e.0, puts_counted ys ts h.1 e.1)

  put_counted : (ys : List Ty) → Each Counted ys → (t : Ty) → Counted t → Counted (put (at ys) t)
  put_counted ys e = by_cases (λ t. Counted t → Counted (put (at ys) t)) (record {
    any = λ h. ap (is_counted ds) (put-any (at ys)) ∙ h;
    union = λ ts f h. ap (is_counted ds) (put-union (at ys) ts) ∙ counted-union (map (put (at ys)) ts)
        ∙ each_true (is_counted ds) (map (put (at ys)) ts) (puts_counted ys ts f (true_each (is_counted ds) ts (sym (counted-union ts) ∙ h)));
    tuple = λ ts f h. ap (is_counted ds) (put-tuple (at ys) ts) ∙ counted-tuple (map (put (at ys)) ts)
        ∙ each_true (is_counted ds) (map (put (at ys)) ts) (puts_counted ys ts f (tuple_counted ts h));
    nominal = λ k ts f h. ap (is_counted ds) (put-nominal (at ys) k ts)
        ∙ counted_nominal k (map (put (at ys)) ts) (ap (has_arity k) (length-map ts (put (at ys))) ∙ arity_of k ts h) (puts_counted ys ts f (nominal_counted k ts h));
    var = λ v h. ap (is_counted ds) (put-var (at ys) v) ∙ at_counted ys v e;
  })

  counted_kept : IsKeptByPut Counted
  counted_kept = record { variable = counted-var; puts = put_counted }

  pub put_all_counted : (ys : List Ty) → Each Counted ys → (ts : List Ty) → Each Counted ts → Each Counted (map (put (at ys)) ts)
  put_all_counted ys e [] f = tt
  put_all_counted ys e (t ∷ ts) f = (put_counted ys e t f.0, put_all_counted ys e ts f.1)

-- ---- with one more declaration

module _ (ds : List Decl) (d : Decl) where
  abbrev more_decls : List Decl
  more_decls = ds ++ d ∷ []

  abbrev Later : Ty → Type 0
  Later t = Known (length ds) t → Counted ds t → Counted more_decls t

  later_each : (ts : List Ty) → Each Later ts → Each (Known (length ds)) ts → Each (Counted ds) ts → Each (Counted more_decls) ts
  later_each [] h k c = tt
  later_each (t ∷ ts) h k c = (h.0 k.0 c.0, later_each ts h.1 k.1 c.1)

  counted_later : (t : Ty) → Later t
  counted_later = by_cases Later (record {
    any = λ k c. counted-any more_decls;
    union = λ ts f k c. counted-union more_decls ts
        ∙ each_true (is_counted more_decls) ts (later_each ts f (union_known (length ds) ts k) (true_each (is_counted ds) ts (sym (counted-union ds ts) ∙ c)));
    tuple = λ ts f k c. counted-tuple more_decls ts ∙ each_true (is_counted more_decls) ts (later_each ts f (tuple_known (length ds) ts k) (tuple_counted ds ts c));
    nominal = λ j ts f k c.
        let near : j < length ds = (nominal_known (length ds) j ts k).0 in
        counted_nominal more_decls j ts (ap (λ o. nat_eq (length ts) (length (params_of o))) (slice_before ds d j near) ∙ arity_of ds j ts c)
        (later_each ts f (nominal_known (length ds) j ts k).1 (nominal_counted ds j ts c));
    var = λ v k c. counted-var more_decls v;
  })

-- a type of the table, with the declared numbers of arguments
abbrev pub Fits : List Decl → Ty → Type 0
Fits ds t = Known (length ds) t × Counted ds t

known_step : (m : ℕ) (ks : List ℕ) → list_all (λ k. nat_lt k m) ks ≡ true → list_all (λ k. nat_lt k (m + 1)) ks ≡ true
known_step m [] h = refl
known_step m (k ∷ ks) h =
    let p : nat_lt k m ≡ true = and_l (nat_lt k m) (list_all (λ k. nat_lt k m) ks) h in
    let q : nat_lt k (m + 1) ≡ true = grind (arith, p) in
    both_true (nat_lt k (m + 1)) (list_all (λ k. nat_lt k (m + 1)) ks) q (known_step m ks (and_r (nat_lt k m) (list_all (λ k. nat_lt k m) ks) h))

known_later : (ds : List Decl) (d : Decl) (t : Ty) → Known (length ds) t → Known (length (ds ++ d ∷ [])) t
known_later ds d t h = subst (λ m. Known m t) (sym (long-snoc ds d)) (known_step (length ds) _ h)

pub map_each : (P Q : Ty → Type 0) → ((t : Ty) → P t → Q t) → (ts : List Ty) → Each P ts → Each Q ts
map_each P Q f [] e = tt
map_each P Q f (t ∷ ts) e = (f t e.0, map_each P Q f ts e.1)

map_parents : (P Q : Ty → Type 0) → ((t : Ty) → P t → Q t) → (ds : List Decl) → AllParents P ds → AllParents Q ds
map_parents P Q f [] e = tt
map_parents P Q f (d ∷ ds) e = ((λ p ys o. map_each P Q f ys (e.0 p ys o)), map_parents P Q f ds e.1)

at_middle : (f : Ty → Bool) (xs ys : List Ty) (t : Ty) → list_all f (xs ++ t ∷ ys) ≡ true → f t ≡ true
at_middle f [] ys t h = and_l (f t) (list_all f ys) h
at_middle f (x ∷ xs) ys t h = at_middle f xs ys t (and_r (f x) (list_all f (xs ++ t ∷ ys)) h)

pair_each : (P Q : Ty → Type 0) (ts : List Ty) → Each P ts → Each Q ts → Each (λ t. P t × Q t) ts
pair_each P Q [] e f = tt
pair_each P Q (t ∷ ts) e f = ((e.0, f.0), pair_each P Q ts e.1 f.1)

parent_fits : (ds : List Decl) (d : Decl) → IsAllowed ds d → Parents (Fits (ds ++ d ∷ [])) d
parent_fits ds d a p ys o =
    let is = is_nominal d.parent p ys o in
    let k : Known (length ds) (V.Nominal p ys) = sym (ap (is_known (length ds)) is) ∙ parent_known ds d a in
    let all : list_all (is_counted (ds ++ d ∷ [])) (types_of d) ≡ true = not_false (list_all (is_counted (ds ++ d ∷ [])) (types_of d)) a.counted in
    let own : Counted (ds ++ d ∷ []) d.parent = at_middle (is_counted (ds ++ d ∷ [])) (bound_types d.params) (field_types d.fields) d.parent all in
    let c : Counted (ds ++ d ∷ []) (V.Nominal p ys) = sym (ap (is_counted (ds ++ d ∷ [])) is) ∙ own in
    pair_each (Known (length (ds ++ d ∷ []))) (Counted (ds ++ d ∷ [])) ys
    (map_each (Known (length ds)) (Known (length (ds ++ d ∷ []))) (known_later ds d) ys (nominal_known (length ds) p ys k).1)
    (nominal_counted (ds ++ d ∷ []) p ys c)

declared_parents : (ds : List Decl) → Declared ds → AllParents (Fits ds) ds
declared_parents ds builtin = builtin_parents (Fits builtin_types)
declared_parents ds (added es d h r) =
    parents_snoc (Fits (es ++ d ∷ [])) es d
    (map_parents (Fits es) (Fits (es ++ d ∷ [])) (λ t f. (known_later es d t f.0, counted_later es d t f.0 f.1)) es (declared_parents es h))
    (parent_fits es d r.allowed)

fits_kept : (ds : List Decl) → IsKeptByPut (Fits ds)
fits_kept ds = record {
  variable = λ v. ((known_kept (length ds)).variable v, counted-var ds v);
  puts = λ ys e t f. (
    (known_kept (length ds)).puts ys (map_each (Fits ds) (Known (length ds)) (λ u g. g.0) ys e) t f.0,
    put_counted ds ys (map_each (Fits ds) (Counted ds) (λ u g. g.1) ys e) t f.1,
  );
}

-- the arguments of an ancestor are types of the table, with the declared numbers of arguments
pub ancestors_fit : (ds : List Decl) → Declared ds → (k m : ℕ) (ys : List Ty) → up_in ds k m ≡ Some ys → Each (Fits ds) ys
ancestors_fit ds h k m ys u = up_good (Fits ds) (fits_kept ds) ds (declared_fit ds h) (declared_parents ds h) k m ys u
