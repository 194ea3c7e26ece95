-- A written type of a body, with its static parameters put in, is a signature that only its size or a declared bound refuses.
use Rattle.std.proofs.Common.{◌≡◌, ◌∙◌, sym, ap, ap₂, subst, refl, ℕ, ◌-◌, ◌<◌, arith, Bool, true, false, ◌&&◌, ◌||◌, not, cond, nat_eq, nat_lt, List, [], ◌∷◌, ◌++◌, map, length, get_or}
use Rattle.std.specs.List.{flat_map, list_all}
use Rattle.std.proofs.lemmas.List.{length-map, map-append}
use Rattle.jl_model.specs.declared.ty.Ty.{Ty}
use Rattle.jl_model.specs.declared.ty.Ty.TheOpen.{Any, Var}
use Rattle.jl_model.specs.declared.ty.Ty.TheViews.{rolls-Any, rolls-Var}
use Rattle.jl_model.specs.declared.ty.Ty.TheVariants as W
use Rattle.jl_model.specs.declared.ty.Ty.TheFolds.{fold-roll-Ty}
use Rattle.jl_model.specs.declared.ty.Bound.{Bound}
use Rattle.jl_model.specs.declared.ty.Decl.{Decl}
use Rattle.jl_model.specs.declared.ty.Written.{Written}
use Rattle.jl_model.specs.Ancestors.{table_of}
use Rattle.jl_model.specs.Kinds.{places, plus, plus_all, below_nominal, kind_of, nowhere}
use Rattle.jl_model.specs.Refusals.{bound_types}
use Rattle.jl_model.specs.Rows.{kind, vars_in}
use Rattle.jl_model.specs.SigRefusals.{types_in, are_bounds, are_placed, is_argument, is_component, UnusedVariable, TooManyParameters, BoundsCrossed}
use Rattle.jl_model.specs.Subtype.{opaque, put, Below}
use Rattle.jl_model.specs.Valid.{is_known, is_counted, counted_step, is_closed}
use Rattle.jl_model.proofs.DeclaredLemmas.{not_false}
use Rattle.jl_model.proofs.FormLemmas.{vars-var}
use Rattle.jl_model.proofs.KnownLemmas.{known-any, known-var}
use Rattle.jl_model.proofs.PutLemmas.{and_l, and_r, both_true}
use Rattle.jl_model.proofs.TypeInduction.{Each, by_cases}
use Rattle.jl_types.proofs.PartsLemmas.{closed_parts, closed-any, closed-var, known_parts, counted_parts}
use Rattle.jl_sig.proofs.FitLemmas.{argument-var, argument-union, argument-tuple, argument-nominal, component-any, component-var, component-union, component-tuple, component-nominal}
use Rattle.jl_sig.proofs.KindLemmas.{places-var}
use Rattle.jl_match.proofs.ComponentLemmas.{none_of}
use Rattle.jl_match.proofs.NameLemmas.{all-append}
use Rattle.jl_program.specs.declared.tree.Program.{Program}
use Rattle.jl_program.specs.BodyTypes.{may_stand, is_seen, own_or_any, without_statics, IsAllowedType}
use Rattle.jl_program.specs.Scope.{all_types}
use Rattle.jl_calculus.specs.Statics.{own_or_bound, put_bound, with_statics}
use Rattle.jl_calculus.proofs.ToldFaults.{closed_argument}
use Rattle.jl_operations.specs.Bodies.{IsBodySig}
use Rattle.jl_operations.specs.Conditions.{IsPutType, HaveTypes, IsWrittenIn}
use Rattle.jl_search.proofs.HasLemmas.{map_has, has_of, of_has}
use Rattle.jl_sig.proofs.OwnLemmas.{vars_split}
use Rattle.jl_operations.proofs.BoundLemmas.{types_put, bounds_same, places_stay, bounds_put, order_put}
use Rattle.jl_operations.proofs.PutLemmas.{all_alike, all_pass, IsLike, components_kept, closed_nowhere, all_places, all_left}

-- a type without variables may stand anywhere
arguments_closed : (ts : List Ty) → list_all is_closed ts ≡ true → list_all is_argument ts ≡ true
arguments_closed [] h = refl
arguments_closed (t ∷ ts) h = both_true (is_argument t) (list_all is_argument ts) (closed_argument t (and_l (is_closed t) (list_all is_closed ts) h)) (arguments_closed ts (and_r (is_closed t) (list_all is_closed ts) h))

components_closed : (ts : List Ty) → Each (λ t. is_closed t ≡ true → is_component t ≡ true) ts → list_all is_closed ts ≡ true → list_all is_component ts ≡ true
components_closed [] e h = refl
components_closed (t ∷ ts) e h = both_true (is_component t) (list_all is_component ts) (e.0 (and_l (is_closed t) (list_all is_closed ts) h)) (components_closed ts e.1 (and_r (is_closed t) (list_all is_closed ts) h))

pub closed_component : (t : Ty) → is_closed t ≡ true → is_component t ≡ true
closed_component = by_cases (λ t. is_closed t ≡ true → is_component t ≡ true) (record {
  any = λ h. component-any;
  union = λ ts e h. component-union ts ∙ components_closed ts e (sym (closed_parts.union_is ts) ∙ h);
  tuple = λ ts e h. component-tuple ts ∙ components_closed ts e (sym (closed_parts.tuple_is ts) ∙ h);
  nominal = λ k ts e h. component-nominal k ts ∙ arguments_closed ts (closed_parts.arguments k ts h);
  var = λ v h. component-var v;
})

-- ---- lists

pub all_left_of : {A : Type 0} (p : A → Bool) (xs ys : List A) → list_all p (xs ++ ys) ≡ true → list_all p xs ≡ true
all_left_of p xs ys h = and_l (list_all p xs) (list_all p ys) (sym (all-append p xs ys) ∙ h)

pub all_right_of : {A : Type 0} (p : A → Bool) (xs ys : List A) → list_all p (xs ++ ys) ≡ true → list_all p ys ≡ true
all_right_of p xs ys h = and_r (list_all p xs) (list_all p ys) (sym (all-append p xs ys) ∙ h)

pub all_both : {A : Type 0} (p : A → Bool) (xs ys : List A) → list_all p xs ≡ true → list_all p ys ≡ true → list_all p (xs ++ ys) ≡ true
all_both p xs ys h k = all-append p xs ys ∙ both_true (list_all p xs) (list_all p ys) h k

-- ---- tests of `Any` and of variables

counted-any : (ds : List Decl) → is_counted ds W.Any ≡ true
counted-any ds = ap (is_counted ds) (sym rolls-Any) ∙ fold-roll-Ty Bool (counted_step ds) Any

counted-var : (ds : List Decl) (v : ℕ) → is_counted ds (W.Var v) ≡ true
counted-var ds v = ap (is_counted ds) (sym (rolls-Var v)) ∙ fold-roll-Ty Bool (counted_step ds) (Var v)

any_put : (ds : List Decl) → IsPutType ds W.Any
any_put ds = record { valid = record { known = known-any (length ds); counted = counted-any ds }; closed = closed-any }

-- ---- the static parameters of a type

module _ (ds : List Decl) (usable : List Bool) (statics : List Ty) (types : HaveTypes ds usable statics) (t : Written) (seen : is_seen ds usable t ≡ true) (allowed : IsAllowedType ds t) where
  abbrev own : ℕ
  own = length t.vars

  abbrev bound_at : ℕ → Ty
  bound_at v = get_or statics (v - own) W.Any

  -- what stands for a variable, with `Any` for each static parameter that is not usable
  abbrev clean : ℕ → Ty
  clean v = cond (nat_lt v own) (W.Var v) (cond (get_or usable (v - own) false) (bound_at v) W.Any)

  agree : (v : ℕ) → may_stand own usable v ≡ true → own_or_bound statics own v ≡ clean v
  agree v = by (nat_lt v own) (get_or usable (v - own) false)
    where
      by : (a b : Bool) → (a || b) ≡ true → cond a (W.Var v) (bound_at v) ≡ cond a (W.Var v) (cond b (bound_at v) W.Any)
      by true b h = refl
      by false true h = refl
      by false false h = cc

  pick : (P : Ty → Type 0) (v : ℕ) → (nat_lt v own ≡ true → P (W.Var v)) → ((u : Ty) → IsPutType ds u → nat_lt v own ≡ false → P u) → P (clean v)
  pick P v a b = by (nat_lt v own) refl (get_or usable (v - own) false) refl
    where
      by : (x : Bool) → nat_lt v own ≡ x → (y : Bool) → get_or usable (v - own) false ≡ y → P (cond x (W.Var v) (cond y (bound_at v) W.Any))
      by true e y f = a e
      by false e true f = b (bound_at v) (types (v - own) f) e
      by false e false f = b W.Any (any_put ds) e

  like : (v : ℕ) → IsLike (own_or_any own v) (clean v)
  like v = by (nat_lt v own) refl (get_or usable (v - own) false) refl
    where
      put_like : (u : Ty) → IsPutType ds u → IsLike W.Any u
      put_like u h = record { closed = λ k. h.closed; argument = closed_argument u h.closed; component = closed_component u h.closed }

      by : (x : Bool) → nat_lt v own ≡ x → (y : Bool) → get_or usable (v - own) false ≡ y → IsLike (cond x (W.Var v) W.Any) (cond x (W.Var v) (cond y (bound_at v) W.Any))
      by true e y f = record { closed = λ k. k; argument = argument-var v; component = component-var v }
      by false e true f = put_like (bound_at v) (types (v - own) f)
      by false e false f = put_like W.Any (any_put ds)

  -- what is seen
  abbrev m : ℕ
  m = length ds

  seen_rest : (list_all (is_known m) (types_in t) && list_all (may_stand own usable) (flat_map vars_in (types_in t))) ≡ true
  seen_rest = and_r (nat_eq (length t.parts) 1) (list_all (is_known m) (types_in t) && list_all (may_stand own usable) (flat_map vars_in (types_in t))) seen

  known_all : list_all (is_known m) (types_in t) ≡ true
  known_all = and_l (list_all (is_known m) (types_in t)) (list_all (may_stand own usable) (flat_map vars_in (types_in t))) seen_rest

  stand_all : (list_all (may_stand own usable) (flat_map vars_in (bound_types t.vars)) ≡ true) × (list_all (may_stand own usable) (flat_map vars_in t.parts) ≡ true)
  stand_all = vars_split (may_stand own usable) (bound_types t.vars) t.parts (and_r (list_all (is_known m) (types_in t)) (list_all (may_stand own usable) (flat_map vars_in (types_in t))) seen_rest)

  -- where the variables stand
  well : are_placed (without_statics t) ≡ true
  well = not_false (are_placed (without_statics t)) allowed.placed

  bounds_placed : are_bounds own 0 t.vars ≡ true
  bounds_placed = and_l (are_bounds own 0 t.vars) (list_all is_component (map (put (own_or_any own)) t.parts)) well

  parts_placed : list_all is_component (map (put (own_or_any own)) t.parts) ≡ true
  parts_placed = and_r (are_bounds own 0 t.vars) (list_all is_component (map (put (own_or_any own)) t.parts)) well

  -- the type with these put in
  abbrev pub plain : Written
  plain = record { vars = map (put_bound clean) t.vars; parts = map (put clean) t.parts }

  wide : length (map (put_bound clean) t.vars) ≡ own
  wide = length-map t.vars (put_bound clean)

  types_are : types_in plain ≡ map (put clean) (types_in t)
  types_are = ap (λ z. z ++ map (put clean) t.parts) (types_put clean t.vars) ∙ sym (map-append (put clean) (bound_types t.vars) t.parts)

  pub with_is : with_statics statics t ≡ plain
  with_is =
      let bounds = bounds_same (own_or_bound statics own) clean t.vars (all_alike (may_stand own usable) (own_or_bound statics own) clean agree (bound_types t.vars) stand_all.0) in
      let parts = all_alike (may_stand own usable) (own_or_bound statics own) clean agree t.parts stand_all.1 in
      λ i. record { vars = bounds i; parts = parts i }

  other_place : (v w : ℕ) → v < own → nat_lt w own ≡ false → places v (W.Var w) ≡ nowhere
  other_place v w l e =
      let f : nat_eq v w ≡ false = grind (arith, l, e) in
      places-var v w ∙ ap (λ b. cond b (record { covariant = 1; invariant = 0 }) nowhere) f

  unused : UnusedVariable plain → ⊥
  unused (v, l, k) =
      let same : (w : ℕ) → places v (clean w) ≡ places v (W.Var w)
      = λ w. pick (λ z. places v z ≡ places v (W.Var w)) w (λ e. refl) (λ u h e. closed_nowhere v u h.closed ∙ sym (other_place v w (subst (λ z. v < z) wide l) e)) in
      let kinds : kind plain v ≡ kind t v = ap₂ (λ z y. kind_of (plus (plus_all z) (below_nominal y))) (all_places v clean same t.parts) (places_stay v clean same t.vars) in
      allowed.used (v, subst (λ z. v < z) wide l, sym kinds ∙ k)

  many : TooManyParameters plain → ⊥
  many h = allowed.few (let e = length-map t.parts (put clean) in omega (arith, e, h))

  types_pass : (p : Ty → Bool) → list_all p (map (put clean) (types_in t)) ≡ true → list_all p (types_in plain) ≡ true
  types_pass p h = ap (list_all p) types_are ∙ h

  counted : list_all (is_counted ds) (types_in plain) ≡ true
  counted =
      types_pass (is_counted ds)
      (all_pass (is_counted ds) (counted_parts ds) (counted-any ds) clean (λ v. pick (λ z. is_counted ds z ≡ true) v (λ e. counted-var ds v) (λ u h e. h.valid.counted)) (types_in t)
      (not_false (list_all (is_counted ds) (types_in t)) allowed.counted))

  known : list_all (is_known m) (types_in plain) ≡ true
  known =
      types_pass (is_known m)
      (all_pass (is_known m) (known_parts m) (known-any m) clean (λ v. pick (λ z. is_known m z ≡ true) v (λ e. known-var m v) (λ u h e. h.valid.known)) (types_in t) known_all)

  -- where p holds of a variable, it holds of what stands for it
  one_left : (p : ℕ → Bool) (v : ℕ) → (nat_lt v own ≡ true → p v ≡ true) → list_all p (vars_in (clean v)) ≡ true
  one_left p v h =
      pick (λ z. list_all p (vars_in z) ≡ true) v (λ e. ap (list_all p) (vars-var v) ∙ both_true (p v) true (h e) refl) (λ u k e. ap (list_all p) (none_of (vars_in u) k.closed))

  own_left : list_all (λ v. nat_lt v (length plain.vars)) (flat_map vars_in (types_in plain)) ≡ true
  own_left =
      let p : ℕ → Bool = λ v. nat_lt v (length plain.vars) in
      let here : (v : ℕ) → list_all p (vars_in (clean v)) ≡ true = λ v. one_left p v (λ e. ap (λ (z : ℕ). nat_lt v z) wide ∙ e) in
      ap (λ z. list_all p (flat_map vars_in z)) types_are ∙ all_left p clean here (types_in t)

  -- bounds stand where they may, and are in order
  may_be : (v : ℕ) → is_argument (clean v) ≡ true
  may_be v = pick (λ z. is_argument z ≡ true) v (λ e. argument-var v) (λ u h e. closed_argument u h.closed)

  before_left : (v w : ℕ) → (nat_lt w v || not (nat_lt w own)) ≡ true → list_all (λ w. nat_lt w v || not (nat_lt w own)) (vars_in (clean w)) ≡ true
  before_left v w h = one_left (λ w. nat_lt w v || not (nat_lt w own)) w (λ e. h)

  var_like : (v : ℕ) → IsLike (W.Var v) (clean v)
  var_like v = record {
    closed = λ h. let f : false ≡ true = sym (closed-var v) ∙ h in cc;
    argument = may_be v;
    component = pick (λ z. is_component z ≡ true) v (λ e. component-var v) (λ u h e. closed_component u h.closed);
  }

  bounds_well : are_bounds (length plain.vars) 0 plain.vars ≡ true
  bounds_well = subst (λ (z : ℕ). are_bounds z 0 plain.vars ≡ true) (sym wide) (bounds_put own clean may_be before_left var_like 0 t.vars bounds_placed)

  crossed : BoundsCrossed ds plain → ⊥
  crossed c =
      let r = map_has (put_bound clean) t.vars c.0 (has_of plain.vars c.0 c.1) in
      allowed.ordered (
        r.0,
        of_has t.vars r.0 r.1,
        λ k. c.2
            (subst (λ (z : Bound). Below (table_of ds) opaque z.low z.high) r.2 (order_put own clean may_be before_left var_like (table_of ds) 0 t.vars bounds_placed r.0 r.1 k)),
      )

  plain_body : IsBodySig ds plain
  plain_body = record {
    own = own_left;
    known = known;
    written = record {
      placed = λ h.
          (let a = both_true (are_bounds (length plain.vars) 0 plain.vars) (list_all is_component (map (put clean) t.parts)) bounds_well (components_kept (own_or_any own) clean like t.parts parts_placed) in
          let f : true ≡ false = sym a ∙ h in cc);
      used = unused;
      few = many;
      counted = λ h. (let f : true ≡ false = sym counted ∙ h in cc);
    };
    ordered = crossed;
  }

  pub body_sig : IsBodySig ds (with_statics statics t)
  body_sig = subst (IsBodySig ds) (sym with_is) plain_body

-- the same of a type that is written in a body of a program
pub written_sig : (P : Program) (statics : List Ty) (t : Written) → IsWrittenIn P statics t → IsBodySig (all_types P) (with_statics statics t)
written_sig P statics t h = body_sig (all_types P) h.usable statics h.types t h.seen h.allowed

-- where an argument may stand a part may
components_of_closed : (ts : List Ty) → list_all is_closed ts ≡ true → list_all is_component ts ≡ true
components_of_closed [] h = refl
components_of_closed (t ∷ ts) h = both_true (is_component t) (list_all is_component ts) (closed_component t (and_l (is_closed t) (list_all is_closed ts) h)) (components_of_closed ts (and_r (is_closed t) (list_all is_closed ts) h))

pub argument_component : (t : Ty) → is_argument t ≡ true → is_component t ≡ true
argument_component = by_cases (λ t. is_argument t ≡ true → is_component t ≡ true) (record {
  any = λ h. component-any;
  union = λ ts e h. component-union ts ∙ components_of_closed ts (sym (argument-union ts) ∙ h);
  tuple = λ ts e h. component-tuple ts ∙ components_of_closed ts (sym (argument-tuple ts) ∙ h);
  nominal = λ k ts e h. component-nominal k ts ∙ sym (argument-nominal k ts) ∙ h;
  var = λ v h. component-var v;
})
