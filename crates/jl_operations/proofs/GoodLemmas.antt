-- Types that a value may keep in part: what stands in one, and what stands in its ancestors, is one too.
use Rattle.std.proofs.Common.{◌≡◌, ◌∙◌, sym, ap, subst, refl, ℕ, zero, suc, ◌<◌, ◌≤◌, inl, arith, Bool, true, false, ◌&&◌, nat_eq, nat_lt, List, [], ◌∷◌, ◌++◌, map, length, Some, slice_get}
use Rattle.std.specs.List.{flat_map, list_all}
use Rattle.std.proofs.lemmas.List.{length-map}
use Rattle.jl_model.specs.declared.ty.Ty.{Ty}
use Rattle.jl_model.specs.declared.ty.Ty.TheOpen.{Any, Nominal, Var}
use Rattle.jl_model.specs.declared.ty.Ty.TheViews.{outs-Tuple, outs-Nominal, rolls-Any, rolls-Nominal, rolls-Var}
use Rattle.jl_model.specs.declared.ty.Ty.TheViews as V
use Rattle.jl_model.specs.declared.ty.Ty.TheVariants as W
use Rattle.jl_model.specs.declared.ty.Ty.TheFolds.{fold-roll-Ty}
use Rattle.jl_model.specs.declared.ty.Decl.{Decl}
use Rattle.jl_model.specs.Ancestors.{table_of, up_in}
use Rattle.jl_model.specs.Counts.{raw, greatest, IsWithinLimits}
use Rattle.jl_model.specs.Kept.{field_types}
use Rattle.jl_model.specs.Refusals.{Declared, builtin, added, IsAllowed, bound_types, types_of, ancestors, AllWithinLimits}
use Rattle.jl_model.specs.Rows.{vars_in}
use Rattle.jl_model.specs.Subtype.{Table, put, at, lifted}
use Rattle.jl_model.specs.Valid.{names_in, is_known, is_counted, counted_step, params_of}
use Rattle.jl_model.proofs.AncestorLemmas.{IsKeptByPut, Parents, AllParents, IsPattern, up_good, each_true, true_each, slice_before, long-snoc}
use Rattle.jl_model.proofs.CountLemmas.{raw-any, raw-var, raw-union, raw-tuple, raw-nominal}
use Rattle.jl_model.proofs.DeclaredLemmas.{declared_lawful, not_false, allowed_patterns, builtin_parents, parents_snoc, declared_fit, parent_known}
use Rattle.jl_model.proofs.FormLemmas.{is_nominal, all_of, vars-any, put-any, put-nominal, put-var, vars-union, vars-tuple}
use Rattle.jl_model.proofs.KnownLemmas.{known-any, known-var, known-union, known-tuple, nominal_known}
use Rattle.jl_model.proofs.PutLemmas.{and_l, and_r, both_true, is_empty, is_pattern, pattern-any, pattern-var, pattern-union, pattern-tuple, pattern-nominal, put_pattern, put-closed}
use Rattle.jl_model.proofs.TransLemmas.{far, near}
use Rattle.jl_model.proofs.TypeInduction.{Each, by_cases}
use Rattle.jl_types.proofs.PartsLemmas.{known_parts, counted_parts}
use Rattle.jl_operations.proofs.PutLemmas.{put_passes, all_left}

abbrev pub widest : Ty → ℕ
widest t = (raw t).widest

abbrev widths : List Ty → ℕ
widths ts = greatest (map (λ r. r.widest) (map raw ts))

abbrev pub IsNarrow : Ty → Type 0
IsNarrow t = widest t ≤ 256

widths_of : (ts : List Ty) → Each IsNarrow ts → widths ts ≤ 256
widths_of [] e = omega arith
widths_of (t ∷ ts) e = let p = e.0 in let q = widths_of ts e.1 in omega (arith, p, q)

of_widths : (ts : List Ty) → widths ts ≤ 256 → Each IsNarrow ts
of_widths [] h = tt
of_widths (t ∷ ts) h = (omega (arith, h), of_widths ts (omega (arith, h)))

pub nominal_narrow : (k : ℕ) (ts : List Ty) → Each IsNarrow ts → IsNarrow (V.Nominal k ts)
nominal_narrow k ts e = let w = ap (λ r. r.widest) (raw-nominal k ts) in let q = widths_of ts e in omega (arith, w, q)

pub narrow_nominal : (k : ℕ) (ts : List Ty) → IsNarrow (V.Nominal k ts) → Each IsNarrow ts
narrow_nominal k ts h = let w = ap (λ r. r.widest) (raw-nominal k ts) in of_widths ts (omega (arith, w, h))

pub narrow_tuple : (ts : List Ty) → IsNarrow (V.Tuple ts) → Each IsNarrow ts
narrow_tuple ts h = let w = ap (λ r. r.widest) (raw-tuple ts) in of_widths ts (omega (arith, w, h))

pub narrow_union : (ts : List Ty) → IsNarrow (V.Union ts) → Each IsNarrow ts
narrow_union ts h = let w = ap (λ r. r.widest) (raw-union ts) in of_widths ts (omega (arith, w, h))

pub any_narrow : IsNarrow W.Any
any_narrow = let w = ap (λ r. r.widest) raw-any in omega (arith, w)

var_narrow : (v : ℕ) → IsNarrow (W.Var v)
var_narrow v = let w = ap (λ r. r.widest) (raw-var v) in omega (arith, w)

none_empty : (ns : List ℕ) → is_empty ns ≡ true → ns ≡ []
none_empty [] h = refl
none_empty (n ∷ ns) h = cc

-- narrow types put into a pattern leave it narrow
module _ (f : ℕ → Ty) (narrow : (v : ℕ) → IsNarrow (f v)) where
  abbrev Stays : Ty → Type 0
  Stays t = IsPattern t → IsNarrow t → IsNarrow (put f t)

  stays_each : (ts : List Ty) → Each Stays ts → Each IsPattern ts → Each IsNarrow ts → Each IsNarrow (map (put f) ts)
  stays_each [] e p n = tt
  stays_each (t ∷ ts) e p n = (e.0 p.0 n.0, stays_each ts e.1 p.1 n.1)

  put_narrow : (t : Ty) → Stays t
  put_narrow = by_cases Stays (record {
    any = λ p n. subst IsNarrow (sym (put-any f)) any_narrow;
    union = λ ts e p n. subst IsNarrow (sym (put-closed f (V.Union ts) (vars-union ts ∙ none_empty (flat_map vars_in ts) (sym (pattern-union ts) ∙ p)))) n;
    tuple = λ ts e p n. subst IsNarrow (sym (put-closed f (V.Tuple ts) (vars-tuple ts ∙ none_empty (flat_map vars_in ts) (sym (pattern-tuple ts) ∙ p)))) n;
    nominal = λ k ts e p n.
        subst IsNarrow (sym (put-nominal f k ts)) (nominal_narrow k (map (put f) ts) (stays_each ts e (true_each is_pattern ts (sym (pattern-nominal k ts) ∙ p)) (narrow_nominal k ts n)));
    var = λ v p n. subst IsNarrow (sym (put-var f v)) (narrow v);
  })

pub none_left : (xs ys : List ℕ) → xs ++ ys ≡ [] → xs ≡ []
none_left [] ys h = refl
none_left (x ∷ xs) ys h = cc

pub none_right : (xs ys : List ℕ) → xs ++ ys ≡ [] → ys ≡ []
none_right [] ys h = h
none_right (x ∷ xs) ys h = cc

-- ---- what stands in the arguments of ancestors

pub counted-any : (ds : List Decl) → is_counted ds W.Any ≡ true
counted-any ds = ap (is_counted ds) (sym rolls-Any) ∙ fold-roll-Ty Bool (counted_step ds) Any

counted-var : (ds : List Decl) (v : ℕ) → is_counted ds (W.Var v) ≡ true
counted-var ds v = ap (is_counted ds) (sym (rolls-Var v)) ∙ fold-roll-Ty Bool (counted_step ds) (Var v)

-- known, counted, narrow, and with no variable in a union or a tuple
pub record IsFine (ds : List Decl) (t : Ty) : Type 0 where
  pub pattern : IsPattern t
  pub known : is_known (length ds) t ≡ true
  pub counted : is_counted ds t ≡ true
  pub narrow : IsNarrow t

module _ (ds : List Decl) where
  any_fine : IsFine ds W.Any
  any_fine = record { pattern = pattern-any; known = known-any (length ds); counted = counted-any ds; narrow = any_narrow }

  fine_at : (ys : List Ty) (v : ℕ) → Each (IsFine ds) ys → IsFine ds (at ys v)
  fine_at [] v e = any_fine
  fine_at (y ∷ ys) zero e = e.0
  fine_at (y ∷ ys) (suc v) e = fine_at ys v e.1

  patterns_of : (ys : List Ty) → Each (IsFine ds) ys → Each IsPattern ys
  patterns_of [] e = tt
  patterns_of (y ∷ ys) e = (e.0.pattern, patterns_of ys e.1)

  fine_puts : (ys : List Ty) → Each (IsFine ds) ys → (t : Ty) → IsFine ds t → IsFine ds (put (at ys) t)
  fine_puts ys e t h = record {
    pattern = put_pattern ys (each_true is_pattern ys (patterns_of ys e)) t h.pattern;
    known = put_passes (is_known (length ds)) (known_parts (length ds)) (known-any (length ds)) (at ys) (λ v. (fine_at ys v e).known) t h.known;
    counted = put_passes (is_counted ds) (counted_parts ds) (counted-any ds) (at ys) (λ v. (fine_at ys v e).counted) t h.counted;
    narrow = put_narrow (at ys) (λ v. (fine_at ys v e).narrow) t h.pattern h.narrow;
  }

  fine_kept : IsKeptByPut (IsFine ds)
  fine_kept = record {
    variable = λ v. record { pattern = pattern-var v; known = known-var (length ds) v; counted = counted-var ds v; narrow = var_narrow v };
    puts = fine_puts;
  }

  all_puts : (ys : List Ty) → Each (IsFine ds) ys → (ts : List Ty) → Each (IsFine ds) ts → Each (IsFine ds) (map (put (at ys)) ts)
  all_puts ys e [] f = tt
  all_puts ys e (t ∷ ts) f = (fine_puts ys e t f.0, all_puts ys e ts f.1)

-- with one more declaration
pub counted-nominal : (ds : List Decl) (k : ℕ) (ts : List Ty) → is_counted ds (V.Nominal k ts) ≡ (nat_eq (length (map (is_counted ds) ts)) (length (params_of (slice_get ds k))) && list_all (is_counted ds) ts)
counted-nominal ds k ts =
    ap (is_counted ds) (sym (rolls-Nominal k ts)) ∙ fold-roll-Ty Bool (counted_step ds) (Nominal k ts) ∙ ap (λ b. nat_eq (length (map (is_counted ds) ts)) (length (params_of (slice_get ds k))) && b) (all_of (is_counted ds) ts)

module _ (es : List Decl) (d : Decl) where
  abbrev more : List Decl
  more = es ++ d ∷ []

  abbrev Later : Ty → Type 0
  Later t = is_known (length es) t ≡ true → is_counted es t ≡ true → is_counted more t ≡ true

  later_each : (ts : List Ty) → Each Later ts → Each (λ t. is_known (length es) t ≡ true) ts → list_all (is_counted es) ts ≡ true → list_all (is_counted more) ts ≡ true
  later_each [] e k h = refl
  later_each (t ∷ ts) e k h =
      both_true (is_counted more t) (list_all (is_counted more) ts) (e.0 k.0 (and_l (is_counted es t) (list_all (is_counted es) ts) h)) (later_each ts e.1 k.1 (and_r (is_counted es t) (list_all (is_counted es) ts) h))

  counted_later : (t : Ty) → Later t
  counted_later = by_cases Later (record {
    any = λ k h. counted-any more;
    union = λ ts e k h. (counted_parts more).union_is ts ∙ later_each ts e (true_each (is_known (length es)) ts (sym (known-union (length es) ts) ∙ k)) (sym ((counted_parts es).union_is ts) ∙ h);
    tuple = λ ts e k h. (counted_parts more).tuple_is ts ∙ later_each ts e (true_each (is_known (length es)) ts (sym (known-tuple (length es) ts) ∙ k)) (sym ((counted_parts es).tuple_is ts) ∙ h);
    nominal = λ n ts e k h.
        (let r = nominal_known (length es) n ts k in
        let c = sym (counted-nominal es n ts) ∙ h in
        let w = and_l (nat_eq (length (map (is_counted es) ts)) (length (params_of (slice_get es n)))) (list_all (is_counted es) ts) c in
        let all = later_each ts e r.1 (and_r (nat_eq (length (map (is_counted es) ts)) (length (params_of (slice_get es n)))) (list_all (is_counted es) ts) c) in
        let long : length (map (is_counted more) ts) ≡ length (map (is_counted es) ts) = length-map ts (is_counted more) ∙ sym (length-map ts (is_counted es)) in
        let same : nat_eq (length (map (is_counted more) ts)) (length (params_of (slice_get more n))) ≡ true
        = ap (λ (z : ℕ). nat_eq z (length (params_of (slice_get more n)))) long ∙ ap (λ o. nat_eq (length (map (is_counted es) ts)) (length (params_of o))) (slice_before es d n r.0) ∙ w in
        counted-nominal more n ts ∙ both_true (nat_eq (length (map (is_counted more) ts)) (length (params_of (slice_get more n)))) (list_all (is_counted more) ts) same all);
    var = λ v k h. counted-var more v;
  })

  names_later : (m k : ℕ) → m ≤ k → (js : List ℕ) → list_all (λ j. nat_lt j m) js ≡ true → list_all (λ j. nat_lt j k) js ≡ true
  names_later m k le [] h = refl
  names_later m k le (j ∷ js) h =
      let p : nat_lt j m ≡ true = and_l (nat_lt j m) (list_all (λ j. nat_lt j m) js) h in
      let q : nat_lt j k ≡ true = grind (arith, le, p) in
      both_true (nat_lt j k) (list_all (λ j. nat_lt j k) js) q (names_later m k le js (and_r (nat_lt j m) (list_all (λ j. nat_lt j m) js) h))

  known_later : (t : Ty) → is_known (length es) t ≡ true → is_known (length more) t ≡ true
  known_later t h = names_later (length es) (length more) (omega (arith, long-snoc es d)) (names_in t) h

  fine_later : (t : Ty) → IsFine es t → IsFine more t
  fine_later t h = record { pattern = h.pattern; known = known_later t h.known; counted = counted_later t h.known h.counted; narrow = h.narrow }

  each_later : (ts : List Ty) → Each (IsFine es) ts → Each (IsFine more) ts
  each_later [] e = tt
  each_later (t ∷ ts) e = (fine_later t e.0, each_later ts e.1)

  parents_later : (cs : List Decl) → AllParents (IsFine es) cs → AllParents (IsFine more) cs
  parents_later [] h = tt
  parents_later (c ∷ cs) h = ((λ p ys e. each_later ys (h.0 p ys e)), parents_later cs h.1)

  -- the parent of the declaration itself
  at_middle : (p : Ty → Bool) (ts us : List Ty) (t : Ty) → list_all p (ts ++ t ∷ us) ≡ true → p t ≡ true
  at_middle p [] us t h = and_l (p t) (list_all p us) h
  at_middle p (s ∷ ts) us t h = at_middle p ts us t (and_r (p s) (list_all p (ts ++ t ∷ us)) h)

  within_middle : (xs ys zs : List Ty) (t : Ty) → AllWithinLimits ((xs ++ t ∷ ys) ++ zs) → IsWithinLimits t
  within_middle [] ys zs t h = h.0
  within_middle (x ∷ xs) ys zs t h = within_middle xs ys zs t h.1

  module _ (ok : IsAllowed es d) where
    parent_narrow : IsNarrow d.parent
    parent_narrow =
        let f : 256 < widest d.parent → ⊥ = λ l. ok.small (inl (λ w. (let g = (within_middle (bound_types d.params) (field_types d.fields) (map (λ a. V.Nominal a.name a.args) (ancestors es d)) d.parent w).alternatives in omega (arith, g, l)))) in
        omega (arith, f)

    gather : (ys : List Ty) → Each IsPattern ys → Each (λ t. is_known (length es) t ≡ true) ys → list_all (is_counted more) ys ≡ true → Each IsNarrow ys → Each (IsFine more) ys
    gather [] p k c n = tt
    gather (y ∷ ys) p k c n = (
      record { pattern = p.0; known = known_later y k.0; counted = and_l (is_counted more y) (list_all (is_counted more) ys) c; narrow = n.0 },
      gather ys p.1 k.1 (and_r (is_counted more y) (list_all (is_counted more) ys) c) n.1,
    )

    own_fine : Parents (IsFine more) d
    own_fine p ys e =
        let is = is_nominal d.parent p ys e in
        let known = nominal_known (length es) p ys (sym (ap (is_known (length es)) is) ∙ parent_known es d ok) in
        let all = not_false (list_all (is_counted more) (types_of d)) ok.counted in
        let counted = sym (ap (is_counted more) is) ∙ at_middle (is_counted more) (bound_types d.params) (field_types d.fields) d.parent all in
        gather ys (allowed_patterns es d ok p ys e) known.1 ((counted_parts more).arguments p ys counted) (narrow_nominal p ys (subst IsNarrow is parent_narrow))

declared_fine : (ds : List Decl) → Declared ds → AllParents (IsFine ds) ds
declared_fine ds builtin = builtin_parents (IsFine ds)
declared_fine ds (added es d h r) = parents_snoc (IsFine (es ++ d ∷ [])) es d (parents_later es d es (declared_fine es h)) (own_fine es d r.allowed)

-- ---- the arguments of ancestors

module _ (ds : List Decl) (declared : Declared ds) where
  abbrev n : Table
  n = table_of ds

  up_is : (k m : ℕ) → n.up k m ≡ up_in ds k m
  unfolding table_of
  up_is k m = refl

  lifted_at : (k m : ℕ) (xs zs : List Ty) (b : Bool) → nat_eq k m ≡ b → Each (IsFine ds) xs → lifted n k xs m ≡ Some zs → Each (IsFine ds) zs
  lifted_at k m xs zs true e f l = subst (Each (IsFine ds)) (near n (declared_lawful ds declared) k m xs zs e l) f
  lifted_at k m xs zs false e f l =
      let r = far n (declared_lawful ds declared) k m xs zs e l in
      subst (Each (IsFine ds)) r.2 (all_puts ds xs f r.0 (up_good (IsFine ds) (fine_kept ds) ds (declared_fit ds declared) (declared_fine ds declared) k m r.0 (sym (up_is k m) ∙ r.1)))

  pub lifted_fine : (k m : ℕ) (xs zs : List Ty) → Each (IsFine ds) xs → lifted n k xs m ≡ Some zs → Each (IsFine ds) zs
  lifted_fine k m xs zs f l = lifted_at k m xs zs (nat_eq k m) refl f l

  closed_at : (xs : List Ty) (v : ℕ) → flat_map vars_in xs ≡ [] → vars_in (at xs v) ≡ []
  closed_at [] v h = vars-any
  closed_at (x ∷ xs) zero h = none_left (vars_in x) (flat_map vars_in xs) h
  closed_at (x ∷ xs) (suc v) h = closed_at xs v (none_right (vars_in x) (flat_map vars_in xs) h)

  none_of_all : (ns : List ℕ) → list_all (λ v. false) ns ≡ true → ns ≡ []
  none_of_all [] h = refl
  none_of_all (k ∷ ks) h = cc

  closed_by : (k m : ℕ) (xs zs : List Ty) (b : Bool) → nat_eq k m ≡ b → flat_map vars_in xs ≡ [] → lifted n k xs m ≡ Some zs → flat_map vars_in zs ≡ []
  closed_by k m xs zs true e f l = subst (λ z. flat_map vars_in z ≡ []) (near n (declared_lawful ds declared) k m xs zs e l) f
  closed_by k m xs zs false e f l =
      let r = far n (declared_lawful ds declared) k m xs zs e l in
      let none = λ (v : ℕ). ap (list_all (λ (w : ℕ). false)) (closed_at xs v f) in
      subst (λ z. flat_map vars_in z ≡ []) r.2 (none_of_all (flat_map vars_in (map (put (at xs)) r.0)) (all_left (λ w. false) (at xs) none r.0))

  pub lifted_closed : (k m : ℕ) (xs zs : List Ty) → flat_map vars_in xs ≡ [] → lifted n k xs m ≡ Some zs → flat_map vars_in zs ≡ []
  lifted_closed k m xs zs f l = closed_by k m xs zs (nat_eq k m) refl f l
