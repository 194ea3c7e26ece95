-- A signature and its kept form differ in equal arguments alone, and the kept form has what the laws ask.
use Rattle.std.proofs.Common.{◌≡◌, ◌∙◌, sym, ap, subst, refl, ℕ, suc, ◌+◌, ◌<◌, arith, Bool, true, false, ◌&&◌, ◌||◌, not, nat_eq, nat_lt, List, [], ◌∷◌, ◌++◌, length, get_or, ◌⊎◌, inl, inr}
use Rattle.std.specs.List.{flat_map, list_all}
use Rattle.jl_model.specs.declared.ty.Ty.{Ty}
use Rattle.jl_model.specs.declared.ty.Bound.{Bound}
use Rattle.jl_model.specs.declared.ty.Ty.TheOpen.{Ty-F, Any, Union, Tuple, Nominal, Var}
use Rattle.jl_model.specs.declared.ty.Ty.TheViews.{out-Ty, outs-Nominal, outs-Var, rolls-Var}
use Rattle.jl_model.specs.declared.ty.Ty.TheVariants as W
use Rattle.jl_model.specs.declared.ty.Ty.TheFolds.{para-roll-Ty}
use Rattle.jl_model.specs.declared.ty.Decl.{Decl}
use Rattle.jl_model.specs.declared.ty.Written.{Written}
use Rattle.jl_model.specs.Ancestors.{table_of}
use Rattle.jl_model.specs.Rows.{width, free, low, high, vars_in}
use Rattle.jl_model.specs.Signature.{Both, both_end, both_more}
use Rattle.jl_model.specs.Subtype.{Table, Equal, Equals, equals_end, equals_more}
use Rattle.jl_model.specs.Normal.{IsNormal, AllNormal, any as normal_any, var as normal_var, nominal as normal_nominal, tuple as normal_tuple, union as normal_union, none as normals_end, more as normals_more, IsNormalForm}
use Rattle.jl_model.specs.Valid.{is_closed}
use Rattle.jl_model.specs.Refusals.{Declared, bound_types, Given, given_from, given_in, given_step}
use Rattle.jl_model.proofs.TypeInduction.{Each, by_cases}
use Rattle.jl_model.proofs.FormLemmas.{is_any, is_union, is_tuple, is_nominal, is_var, vars-union, vars-tuple, vars-nominal}
use Rattle.jl_model.proofs.PutLemmas.{and_l, and_r, both_true}
use Rattle.jl_model.proofs.AncestorLemmas.{Lawful}
use Rattle.jl_model.proofs.TransLemmas.{below_trans, equal_trans}
use Rattle.jl_model.proofs.NormalLemmas.{normal_same}
use Rattle.jl_model.proofs.DeclaredLemmas.{declared_lawful}
use Rattle.jl_types.specs.Form.{Settles, AllSettle, any, var, union, tuple, nominal, none, more}
use Rattle.jl_types.proofs.ExistLemmas.{exists}
use Rattle.jl_types.proofs.PartsLemmas.{closed_parts}
use Rattle.jl_subsig.specs.Alike.{EqualArguments, Alike, AreAlike, IsKeptForm}
use Rattle.jl_subsume.specs.Scoped.{IsScoped, IsPlaced, IsOrdered, HasNormalArguments}
use Rattle.jl_model.specs.SigRefusals.{is_argument, is_component, bottom_form, is_bottom, named_form, is_bound, are_bounds}
use Rattle.jl_search.proofs.HasLemmas.{Has, has_left, has_right, has_split, has_of, all_has, none_has, has_none}
use Rattle.jl_search.proofs.EqualLemmas.{nominal_form}
use Rattle.jl_search.specs.Open.{IsOpen, AreOpen, closed, variable, applied, open_end, open_more}
use Rattle.jl_subsig.proofs.RightLemmas.{Allowed, allowed_seeds, allowed_bound}
use Rattle.jl_subsume.proofs.ScopeLemmas.{low_none}
use Rattle.jl_subsig.proofs.PairLemmas.{settle_union}
use Rattle.jl_sig.proofs.FitLemmas.{argument-any, argument-var, argument-union, argument-tuple, argument-nominal, component-any, component-var, component-union, component-tuple, component-nominal}
use Rattle.jl_subsig.proofs.LeftLemmas.{NormalIn, given-any, given-union, given-tuple, given-nominal}
use Rattle.jl_subsig.proofs.AlikeLemmas.{alike_equal, alike_vars, all_vars}
use Rattle.jl_subsig.proofs.MatchLemmas.{Matches, matches_of}

length_none : (t : Ty) → vars_in t ≡ [] → is_closed t ≡ true
length_none t e = let f : length (vars_in t) ≡ 0 = ap length e in grind (arith, f)

none_length : (ns : List ℕ) → nat_eq (length ns) 0 ≡ true → ns ≡ []
none_length [] h = refl
none_length (n ∷ ns) h = let e : length (n ∷ ns) ≡ 0 = grind (arith, h) in absurd (omega arith)

given-var : (v : ℕ) → given_in (W.Var v) ≡ []
given-var v = ap given_in (sym (rolls-Var v)) ∙ para-roll-Ty (List Given) given_step (Var v)

-- types without variables stand at any place
all_none : (ts : List Ty) → flat_map vars_in ts ≡ [] → list_all is_closed ts ≡ true
all_none [] h = refl
all_none (t ∷ ts) h =
    both_true (is_closed t) (list_all is_closed ts)
    (length_none t (none_has (vars_in t) (λ v i. has_none (flat_map vars_in (t ∷ ts)) v h (has_left (vars_in t) (flat_map vars_in ts) v i))))
    (all_none ts (none_has (flat_map vars_in ts) (λ v i. has_none (flat_map vars_in (t ∷ ts)) v h (has_right (vars_in t) (flat_map vars_in ts) v i))))

abbrev Bare : Ty → Type 0
Bare t = vars_in t ≡ [] → is_argument t ≡ true

bare_each : (ts : List Ty) → Each Bare ts → flat_map vars_in ts ≡ [] → list_all is_argument ts ≡ true
bare_each [] e h = refl
bare_each (t ∷ ts) e h =
    both_true (is_argument t) (list_all is_argument ts)
    (e.0 (none_has (vars_in t) (λ v i. has_none (flat_map vars_in (t ∷ ts)) v h (has_left (vars_in t) (flat_map vars_in ts) v i))))
    (bare_each ts e.1 (none_has (flat_map vars_in ts) (λ v i. has_none (flat_map vars_in (t ∷ ts)) v h (has_right (vars_in t) (flat_map vars_in ts) v i))))

bare_argument : (t : Ty) → Bare t
bare_argument = by_cases Bare (record {
  any = λ h. argument-any;
  union = λ ts e h. argument-union ts ∙ all_none ts (sym (vars-union ts) ∙ h);
  tuple = λ ts e h. argument-tuple ts ∙ all_none ts (sym (vars-tuple ts) ∙ h);
  nominal = λ k ts e h. argument-nominal k ts ∙ bare_each ts e (sym (vars-nominal k ts) ∙ h);
  var = λ v h. argument-var v;
})

mutual
  argument_is : (t : Ty) → IsOpen t → is_argument t ≡ true
  argument_is t (closed u e) = bare_argument t e
  argument_is t (variable u v e) = ap is_argument (is_var t v e) ∙ argument-var v
  argument_is t (applied u k ts e p) = ap is_argument (is_nominal t k ts e) ∙ argument-nominal k ts ∙ arguments_are ts p

  arguments_are : (ts : List Ty) → AreOpen ts → list_all is_argument ts ≡ true
  arguments_are ts open_end = refl
  arguments_are ts (open_more t us p r) = both_true (is_argument t) (list_all is_argument us) (argument_is t p) (arguments_are us r)

module _ (ds : List Decl) (declared : Declared ds) where
  abbrev n : Table
  n = table_of ds

  law : Lawful n
  law = declared_lawful ds declared

  abbrev Form : Ty → Ty → Type 0
  Form = IsNormalForm n

  -- the normal form of a type without variables has none
  pub closed_form : (t u : Ty) → vars_in t ≡ [] → Form t u → vars_in u ≡ []
  closed_form t u e h =
      let r = exists ds declared t in
      let s : is_closed r.0 ≡ true = r.1.kept is_closed closed_parts (length_none t e) in
      let i : u ≡ r.0 = normal_same n law u h.normal r.0 r.1.form.normal (equal_trans n law u t r.0 (h.equal.1, h.equal.0) r.1.form.equal) in
      ap vars_in i ∙ none_length (vars_in r.0) s

  mutual
    -- the normal form of an argument is one, with the same variables
    argument_form : (t u : Ty) → IsOpen t → Form t u → (vars_in t ≡ vars_in u) × IsOpen u
    argument_form t u (closed s e) h = let v = closed_form t u e h in (e ∙ sym v, closed u v)
    argument_form t u (variable s v e) h =
        let i = is_var t v e in
        let j : u ≡ W.Var v = normal_same n law u h.normal (W.Var v) (normal_var (W.Var v) v (outs-Var v)) (subst (λ z. Equal n u z) i (h.equal.1, h.equal.0)) in
        (ap vars_in (i ∙ sym j), variable u v (ap out-Ty j ∙ outs-Var v))
    argument_form t u (applied s k ts e p) h =
        let i = is_nominal t k ts e in
        let r = nominal_form ds declared u k ts h.normal (subst (λ z. Equal n u z) i (h.equal.1, h.equal.0)) in
        let q = arguments_form ts r.0 p r.2 r.3 in
        (ap vars_in i ∙ vars-nominal k ts ∙ q.0 ∙ sym (ap vars_in r.1 ∙ vars-nominal k r.0), applied u k r.0 (ap out-Ty r.1 ∙ outs-Nominal k r.0) q.1)

    arguments_form : (ts us : List Ty) → AreOpen ts → Equals n us ts → AllNormal n us → (flat_map vars_in ts ≡ flat_map vars_in us) × AreOpen us
    arguments_form ts us open_end equals_end q = (refl, open_end)
    arguments_form ts us (open_more t vs p ps) (equals_more u t2 ws vs2 b c e) (normals_more u2 ws2 g gs) =
        let one = argument_form t u p (record { normal = g; equal = (c, b) }) in
        let rest = arguments_form vs ws ps e gs in
        (ap (λ z. z ++ flat_map vars_in vs) one.0 ∙ ap (λ z. vars_in u ++ z) rest.0, open_more u ws one.1 rest.1)

  forms_alike : (ts us : List Ty) → AreOpen ts → Both Form ts us → Both (EqualArguments n) ts us × AreOpen us
  forms_alike ts us open_end both_end = (both_end, open_end)
  forms_alike ts us (open_more t vs p ps) (both_more t2 u vs2 ws h r) =
      let one = argument_form t u p h in
      let rest = forms_alike vs ws ps r in
      (both_more t u vs ws (h.equal, one.0) rest.0, open_more u ws one.1 rest.1)

  pub forms_vars : (ts us : List Ty) → AreOpen ts → Both Form ts us → flat_map vars_in ts ≡ flat_map vars_in us
  forms_vars ts us p h = all_vars n ts us (forms_alike ts us p h).0

  mutual
    kept_alike : (t u : Ty) → Allowed t → Settles Form t u → Alike n t u × (is_component u ≡ true)
    kept_alike t u p (any s e) = (any t e, ap is_component (is_any t e) ∙ component-any)
    kept_alike t u p (var s v e) = (var t v e, ap is_component (is_var t v e) ∙ component-var v)
    kept_alike t u p (union s w ts us e f h) =
        let r = all_kept_alike ts us (λ x i. allowed_seeds.union ts (subst Allowed (is_union t ts e) p) x i) h in
        (union t u ts us e f r.0, ap is_component (is_union u us f) ∙ component-union us ∙ r.1)
    kept_alike t u p (tuple s w ts us e f h) =
        let r = all_kept_alike ts us (λ x i. allowed_seeds.tuple ts (subst Allowed (is_tuple t ts e) p) x i) h in
        (tuple t u ts us e f r.0, ap is_component (is_tuple u us f) ∙ component-tuple us ∙ r.1)
    kept_alike t u p (nominal s w k ts us e f h) =
        let r = forms_alike ts us (allowed_seeds.nominal k ts (subst Allowed (is_nominal t k ts e) p)) h in
        (nominal t u k ts us e f r.0, ap is_component (is_nominal u k us f) ∙ component-nominal k us ∙ arguments_are us r.1)

    all_kept_alike : (ts us : List Ty) → ((t : Ty) → Has ts t → Allowed t) → AllSettle Form ts us → AllSettle (EqualArguments n) ts us × (list_all is_component us ≡ true)
    all_kept_alike ts us p none = (none, refl)
    all_kept_alike ts us p (more t u vs ws h r) =
        let one = kept_alike t u (p t (inl refl)) h in
        let rest = all_kept_alike vs ws (λ x i. p x (inr i)) r in
        (more t u vs ws one.0 rest.0, both_true (is_component u) (list_all is_component ws) one.1 rest.1)

  both_kept_alike : (ts us : List Ty) → ((t : Ty) → Has ts t → Allowed t) → Both (Settles Form) ts us → Both (Alike n) ts us × (list_all is_component us ≡ true)
  both_kept_alike ts us p both_end = (both_end, refl)
  both_kept_alike ts us p (both_more t u vs ws h r) =
      let one = kept_alike t u (p t (inl refl)) h in
      let rest = both_kept_alike vs ws (λ x i. p x (inr i)) r in
      (both_more t u vs ws one.0 rest.0, both_true (is_component u) (list_all is_component ws) one.1 rest.1)

  -- all arguments in a normal form are normal forms
  given_normal : (k i : ℕ) (ts : List Ty) → AllNormal n ts → (x : Given) → Has (given_from k i ts) x → IsNormal n x.ty
  given_normal k i ts normals_end x h = absurd h
  given_normal k i ts (normals_more t us p q) x (inl e) = subst (λ z. IsNormal n z.ty) e p
  given_normal k i ts (normals_more t us p q) x (inr h) = given_normal k (i + 1) us q x h

  mutual
    normal_in : (t : Ty) → IsNormal n t → NormalIn n t
    normal_in t (normal_any s e) x h = absurd (has_none (given_in t) x (ap given_in (is_any t e) ∙ given-any) h)
    normal_in t (normal_var s v e) x h = absurd (has_none (given_in t) x (ap given_in (is_var t v e) ∙ given-var v) h)
    normal_in t (normal_nominal s k xs e p) x h = elim (has_split (given_from k 0 xs) (flat_map given_in xs) x (subst (λ z. Has z x) (ap given_in (is_nominal t k xs e) ∙ given-nominal k xs) h)) [
      | inl i ↦ given_normal k 0 xs p x i
      | inr i ↦ normals_in xs p x i
    ]
    normal_in t (normal_tuple s xs e p q) x h = normals_in xs p x (subst (λ z. Has z x) (ap given_in (is_tuple t xs e) ∙ given-tuple xs) h)
    normal_in t (normal_union s ts e p q m l) x h = normals_in ts p x (subst (λ z. Has z x) (ap given_in (is_union t ts e) ∙ given-union ts) h)

    normals_in : (ts : List Ty) → AllNormal n ts → (x : Given) → Has (flat_map given_in ts) x → IsNormal n x.ty
    normals_in ts normals_end x h = absurd h
    normals_in ts (normals_more t us p q) x h = elim (has_split (given_in t) (flat_map given_in us) x h) [ inl i ↦ normal_in t p x i | inr i ↦ normals_in us q x i ]

  forms_normal : (ts us : List Ty) → Both Form ts us → AllNormal n us
  forms_normal ts us both_end = normals_end
  forms_normal ts us (both_more t u vs ws h r) = normals_more u ws h.normal (forms_normal vs ws r)

  mutual
    kept_in : (t u : Ty) → Settles Form t u → NormalIn n u
    kept_in t u (any s e) x h = absurd (has_none (given_in t) x (ap given_in (is_any t e) ∙ given-any) h)
    kept_in t u (var s v e) x h = absurd (has_none (given_in t) x (ap given_in (is_var t v e) ∙ given-var v) h)
    kept_in t u (union s w ts us e f q) x h = all_kept_in ts us q x (subst (λ z. Has z x) (ap given_in (is_union u us f) ∙ given-union us) h)
    kept_in t u (tuple s w ts us e f q) x h = all_kept_in ts us q x (subst (λ z. Has z x) (ap given_in (is_tuple u us f) ∙ given-tuple us) h)
    kept_in t u (nominal s w k ts us e f q) x h = elim (has_split (given_from k 0 us) (flat_map given_in us) x (subst (λ z. Has z x) (ap given_in (is_nominal u k us f) ∙ given-nominal k us) h)) [
      | inl i ↦ given_normal k 0 us (forms_normal ts us q) x i
      | inr i ↦ normals_in us (forms_normal ts us q) x i
    ]

    all_kept_in : (ts us : List Ty) → AllSettle Form ts us → (x : Given) → Has (flat_map given_in us) x → IsNormal n x.ty
    all_kept_in ts us none x h = absurd h
    all_kept_in ts us (more t u vs ws p r) x h = elim (has_split (given_in u) (flat_map given_in ws) x h) [ inl i ↦ kept_in t u p x i | inr i ↦ all_kept_in vs ws r x i ]

  both_kept_in : (ts us : List Ty) → Both (Settles Form) ts us → (x : Given) → Has (flat_map given_in us) x → IsNormal n x.ty
  both_kept_in ts us both_end x h = absurd h
  both_kept_in ts us (both_more t u vs ws p r) x h = elim (has_split (given_in u) (flat_map given_in ws) x h) [ inl i ↦ kept_in t u p x i | inr i ↦ both_kept_in vs ws r x i ]

  both_append : (P : Ty → Ty → Type 0) (ts us vs ws : List Ty) → Both P ts us → Both P vs ws → Both P (ts ++ vs) (us ++ ws)
  both_append P ts us vs ws both_end q = q
  both_append P ts us vs ws (both_more t u as_ bs p r) q = both_more t u (as_ ++ vs) (bs ++ ws) p (both_append P as_ bs vs ws r q)

  -- bounds that are kept are as they were: without variables, or nominal types over variables before
  bottom_of : (x : Ty-F Ty) → bottom_form x ≡ true → x ≡ Union []
  bottom_of Any h = let e : false ≡ true = h in cc
  bottom_of (Union []) h = refl
  bottom_of (Union (t ∷ ts)) h = let e : false ≡ true = h in cc
  bottom_of (Tuple ts) h = let e : false ≡ true = h in cc
  bottom_of (Nominal k ts) h = let e : false ≡ true = h in cc
  bottom_of (Var v) h = let e : false ≡ true = h in cc

  nothing_settles : (us : List Ty) → AllSettle (EqualArguments n) [] us → us ≡ []
  nothing_settles us none = refl

  bottom_there : (t u : Ty) → Alike n t u → is_bottom t ≡ true → is_bottom u ≡ true
  bottom_there t u p h =
      let r = settle_union (EqualArguments n) t u [] (bottom_of (out-Ty t) h) p in
      ap bottom_form (r.1 ∙ ap (λ z. Union z) (nothing_settles r.0 r.2))

  named_there : (t u : Ty) → Alike n t u → is_component u ≡ true → named_form (out-Ty t) ≡ true → named_form (out-Ty u) ≡ true
  named_there t u (any a e) c h = let i : false ≡ true = sym (ap named_form e) ∙ h in cc
  named_there t u (var a v e) c h = let i : false ≡ true = sym (ap named_form e) ∙ h in cc
  named_there t u (union a b ts us e f r) c h = let i : false ≡ true = sym (ap named_form e) ∙ h in cc
  named_there t u (tuple a b ts us e f r) c h = let i : false ≡ true = sym (ap named_form e) ∙ h in cc
  named_there t u (nominal a b k ts us e f r) c h = ap named_form f ∙ sym (ap is_component (is_nominal u k us f) ∙ component-nominal k us) ∙ c

  or_true : (b c : Bool) → (b || c) ≡ true → (b ≡ true) ⊎ (c ≡ true)
  or_true true c h = inl refl
  or_true false c h = inr h

  or_left : (b c : Bool) → b ≡ true → (b || c) ≡ true
  or_left b c h = rw h refl

  or_right : (b c : Bool) → c ≡ true → (b || c) ≡ true
  or_right true c h = refl
  or_right false c h = h

  is_bound_there : (m v : ℕ) (b c : Bound) → Alike n b.low c.low → Alike n b.high c.high → is_component c.high ≡ true → is_bound m v b ≡ true → is_bound m v c ≡ true
  is_bound_there m v b c p q o h =
      let before : ℕ → Bool = λ w. nat_lt w v || not (nat_lt w m) in
      let lows : vars_in b.low ≡ vars_in c.low = alike_vars n b.low c.low p in
      let highs : vars_in b.high ≡ vars_in c.high = alike_vars n b.high c.high q in
      let old : Bool = is_bottom b.low && named_form (out-Ty b.high) in
      let new : Bool = is_bottom c.low && named_form (out-Ty c.high) in
      let one : is_closed c.low ≡ true = ap (λ z. nat_eq (length z) 0) (sym lows) ∙ and_l (is_closed b.low) (is_closed b.high || (old && list_all before (vars_in b.high))) h in
      both_true (is_closed c.low) (is_closed c.high || (new && list_all before (vars_in c.high))) one
      (elim (or_true (is_closed b.high) (old && list_all before (vars_in b.high)) (and_r (is_closed b.low) (is_closed b.high || (old && list_all before (vars_in b.high))) h)) [
        | inl e ↦ or_left (is_closed c.high) (new && list_all before (vars_in c.high)) (ap (λ z. nat_eq (length z) 0) (sym highs) ∙ e)
        | inr e ↦
            let a = and_l old (list_all before (vars_in b.high)) e in
            or_right (is_closed c.high) (new && list_all before (vars_in c.high))
            (both_true new (list_all before (vars_in c.high))
            (both_true (is_bottom c.low) (named_form (out-Ty c.high)) (bottom_there b.low c.low p (and_l (is_bottom b.low) (named_form (out-Ty b.high)) a))
            (named_there b.high c.high q o (and_r (is_bottom b.low) (named_form (out-Ty b.high)) a)))
            (ap (list_all before) (sym highs) ∙ and_r old (list_all before (vars_in b.high)) e))
      ])

  are_bounds_there : (m v : ℕ) (bs cs : List Bound) → Both (Alike n) (bound_types bs) (bound_types cs) → list_all is_component (bound_types cs) ≡ true → are_bounds m v bs ≡ true → are_bounds m v cs ≡ true
  are_bounds_there m v [] [] p o h = refl
  are_bounds_there m v [] (c ∷ cs) p o h = elim p [ ]
  are_bounds_there m v (b ∷ bs) [] p o h = elim p [ ]
  are_bounds_there m v (b ∷ bs) (c ∷ cs) (both_more x y xs ys p (both_more z w zs ws q r)) o h =
      let rest = and_r (is_component c.low) (list_all is_component (c.high ∷ bound_types cs)) o in
      both_true (is_bound m v c) (are_bounds m (v + 1) cs)
      (is_bound_there m v b c p q (and_l (is_component c.high) (list_all is_component (bound_types cs)) rest) (and_l (is_bound m v b) (are_bounds m (v + 1) bs) h))
      (are_bounds_there m (v + 1) bs cs r (and_r (is_component c.high) (list_all is_component (bound_types cs)) rest) (and_r (is_bound m v b) (are_bounds m (v + 1) bs) h))

  -- each type in the bounds is one of a variable
  bound_at : (bs : List Bound) (t : Ty) → Has (bound_types bs) t → (v : ℕ) × (((get_or bs v free).low ≡ t) ⊎ ((get_or bs v free).high ≡ t))
  bound_at [] t h = absurd h
  bound_at (b ∷ bs) t (inl e) = (0, inl e)
  bound_at (b ∷ bs) t (inr (inl e)) = (0, inr e)
  bound_at (b ∷ bs) t (inr (inr h)) = let r = bound_at bs t h in (suc r.0, r.1)

  -- THE KEPT FORM.
  module _ (s k : Written) (scope : IsScoped s) (placed : IsPlaced s) (kept : IsKeptForm n s k) where
    allowed : (t : Ty) → Has (bound_types s.vars) t → Allowed t
    allowed t h =
        let r = bound_at s.vars t h in
        elim r.1 [ inl e ↦ subst Allowed e (inr (low_none s scope r.0)) | inr e ↦ subst Allowed e (allowed_bound s scope r.0) ]

    bounds : Both (Alike n) (bound_types s.vars) (bound_types k.vars) × (list_all is_component (bound_types k.vars) ≡ true)
    bounds = both_kept_alike (bound_types s.vars) (bound_types k.vars) allowed kept.bounds

    parts : Both (Alike n) s.parts k.parts × (list_all is_component k.parts ≡ true)
    parts = both_kept_alike s.parts k.parts (λ t h. inl (all_has is_component s.parts t placed h)) kept.parts

    pub kept_is_alike : AreAlike n s k
    kept_is_alike = record { bounds = bounds.0; parts = parts.0 }

    pub kept_is_placed : IsPlaced k
    kept_is_placed = parts.1

    pub kept_is_normal : HasNormalArguments n k
    kept_is_normal x c =
        both_kept_in (bound_types s.vars ++ s.parts) (bound_types k.vars ++ k.parts) (both_append (Settles Form) (bound_types s.vars) (bound_types k.vars) s.parts k.parts kept.bounds kept.parts) x
        (has_of (flat_map given_in (bound_types k.vars ++ k.parts)) x c)

    vars_there : (ts us : List Ty) → Both (Alike n) ts us → flat_map vars_in ts ≡ flat_map vars_in us
    vars_there ts us both_end = refl
    vars_there ts us (both_more t u vs ws p r) = ap (λ z. z ++ flat_map vars_in vs) (alike_vars n t u p) ∙ ap (λ z. vars_in u ++ z) (vars_there vs ws r)

    matches : Matches n s k
    matches = matches_of n s k kept_is_alike

    pub kept_is_scoped : IsScoped k
    kept_is_scoped = record {
      own =
          let e : flat_map vars_in s.parts ≡ flat_map vars_in k.parts = vars_there s.parts k.parts parts.0 in
          ap (λ w. list_all (λ v. nat_lt v w) (flat_map vars_in k.parts)) (sym matches.width) ∙ ap (λ z. list_all (λ v. nat_lt v (width s)) z) (sym e) ∙ scope.own;
      own_bounds =
          let e : flat_map vars_in (bound_types s.vars) ≡ flat_map vars_in (bound_types k.vars) = vars_there (bound_types s.vars) (bound_types k.vars) bounds.0 in
          ap (λ w. list_all (λ v. nat_lt v w) (flat_map vars_in (bound_types k.vars))) (sym matches.width) ∙ ap (λ z. list_all (λ v. nat_lt v (width s)) z) (sym e) ∙ scope.own_bounds;
      bounds = ap (λ w. are_bounds w 0 k.vars) (sym matches.width) ∙ are_bounds_there (width s) 0 s.vars k.vars bounds.0 bounds.1 scope.bounds;
    }

    pub kept_is_ordered : IsOrdered n s → IsOrdered n k
    kept_is_ordered o v l =
        let h : v < width s = subst (λ w. v < w) (sym matches.width) l in
        below_trans n law (low k v) (low s v) (high k v) (alike_equal n (low s v) (low k v) (matches.low v)).1
        (below_trans n law (low s v) (high s v) (high k v) (o v h) (alike_equal n (high s v) (high k v) (matches.high v)).0)
