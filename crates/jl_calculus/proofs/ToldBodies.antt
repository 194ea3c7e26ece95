-- A written type in a body, with closed types put in for its static parameters, has no variable at a wrong place: so where it breaks a
-- declared bound there is a fault to tell.
use Rattle.std.proofs.Common.{◌≡◌, ◌∙◌, sym, ap, subst, refl, ℕ, zero, suc, ◌+◌, ◌-◌, ◌⊎◌, inl, inr, Bool, true, false, true≢false, ◌&&◌, ◌||◌, not, cond, nat_eq, nat_lt, List, [], ◌∷◌, map, length, get_or, arith}
use Rattle.std.specs.List.{flat_map, list_all}
use Rattle.std.proofs.lemmas.List.Folds.{list_all-append}
use Rattle.jl_model.specs.declared.ty.Ty.{Ty, out-Ty}
use Rattle.jl_model.specs.declared.ty.Ty.TheOpen.{Ty-F, Any, Union, Tuple, Nominal, Var}
use Rattle.jl_model.specs.declared.ty.Ty.TheVariants as W
use Rattle.jl_model.specs.declared.ty.Ty.TheViews as T
use Rattle.jl_model.specs.declared.ty.Ty.TheViews.{rolls-Any, rolls-Var, outs-Union, outs-Nominal}
use Rattle.jl_model.specs.declared.ty.Ty.TheFolds.{para-roll-Ty}
use Rattle.jl_model.specs.declared.ty.Bound.{Bound}
use Rattle.jl_model.specs.declared.ty.Decl.{Decl}
use Rattle.jl_model.specs.declared.ty.Written.{Written}
use Rattle.jl_model.specs.Refusals.{Declared}
use Rattle.jl_model.specs.Rows.{vars_in}
use Rattle.jl_model.specs.SigRefusals.{VariablePlace, BoundBroken, are_placed, is_argument, is_component, component_step, bottom_form, is_bottom, named_form, is_bound, are_bounds}
use Rattle.jl_model.specs.Subtype.{put}
use Rattle.jl_model.specs.Valid.{is_closed}
use Rattle.jl_model.proofs.FormLemmas.{put-any, put-union, put-tuple, put-nominal, put-var, vars-union, vars-tuple, vars-nominal, vars-var, is_union}
use Rattle.jl_model.proofs.PutLemmas.{and_l, and_r, both_true, put-closed}
use Rattle.jl_model.proofs.TypeInduction.{Each, by_cases}
use Rattle.jl_types.proofs.PartsLemmas.{closed_parts, closed-any}
use Rattle.jl_program.specs.declared.fault.Fault.{Fault}
use Rattle.jl_program.specs.BodyTypes.{own_or_any, without_statics}
use Rattle.jl_calculus.specs.Statics.{own_or_bound, put_bound, with_statics, nominals_of, is_bad_parameter}
use Rattle.jl_calculus.proofs.BrokenLemmas.{one_broken}
use Rattle.jl_calculus.proofs.SureLemmas.{Sure}
use Rattle.jl_calculus.proofs.ToldFaults.{argument-any, argument-var, argument-union, argument-tuple, argument-nominal, component-union, component-tuple, component-nominal, closed_argument, IsNamedBound, named_is, bound_is, each_all, bad_told}

component-any : is_component W.Any ≡ true
component-any = ap is_component (sym rolls-Any) ∙ para-roll-Ty Bool component_step Any

component-var : (v : ℕ) → is_component (W.Var v) ≡ true
component-var v = ap is_component (sym (rolls-Var v)) ∙ para-roll-Ty Bool component_step (Var v)

-- where p holds of each, and gives q
all_give : (p q : Ty → Bool) (ts : List Ty) → Each (λ t. p t ≡ true → q t ≡ true) ts → list_all p ts ≡ true → list_all q ts ≡ true
all_give p q [] e h = refl
all_give p q (t ∷ ts) e h = both_true (q t) (list_all q ts) (e.0 (and_l (p t) (list_all p ts) h)) (all_give p q ts e.1 (and_r (p t) (list_all p ts) h))

closed_component : (t : Ty) → is_closed t ≡ true → is_component t ≡ true
closed_component = by_cases (λ t. is_closed t ≡ true → is_component t ≡ true) (record {
  any = λ h. component-any;
  union = λ ts e h. component-union ts ∙ all_give is_closed is_component ts e (sym (closed_parts.union_is ts) ∙ h);
  tuple = λ ts e h. component-tuple ts ∙ all_give is_closed is_component ts e (sym (closed_parts.tuple_is ts) ∙ h);
  nominal = λ k ts e h.
      component-nominal k ts ∙ all_give is_closed is_argument ts (each_all (λ t. is_closed t ≡ true → is_argument t ≡ true) closed_argument ts) (closed_parts.arguments k ts h);
  var = λ v h. component-var v;
})

-- ---- other types put for the variables

-- what stands for a variable is closed where the other is, and may stand where a variable may
record IsLike (a b : Ty) : Type 0 where
  closed : is_closed a ≡ true → is_closed b ≡ true
  argument : is_argument b ≡ true
  component : is_component b ≡ true

map_length : (f : Ty → Ty) (ts : List Ty) → length (map f ts) ≡ length ts
map_length f [] = refl
map_length f (t ∷ ts) = ap suc (map_length f ts)

module _ (h f : ℕ → Ty) (like : (v : ℕ) → IsLike (h v) (f v)) where
  all_on : (p : Ty → Bool) (ts : List Ty) → Each (λ t. p (put h t) ≡ true → p (put f t) ≡ true) ts → list_all p (map (put h) ts) ≡ true → list_all p (map (put f) ts) ≡ true
  all_on p [] e k = refl
  all_on p (t ∷ ts) e k =
      both_true (p (put f t)) (list_all p (map (put f) ts)) (e.0 (and_l (p (put h t)) (list_all p (map (put h) ts)) k)) (all_on p ts e.1 (and_r (p (put h t)) (list_all p (map (put h) ts)) k))

  closed_on : (t : Ty) → is_closed (put h t) ≡ true → is_closed (put f t) ≡ true
  closed_on = by_cases (λ t. is_closed (put h t) ≡ true → is_closed (put f t) ≡ true) (record {
    any = λ k. ap is_closed (put-any f) ∙ closed-any;
    union = λ ts e k.
        ap is_closed (put-union f ts) ∙ closed_parts.union_is (map (put f) ts) ∙ all_on is_closed ts e (sym (ap is_closed (put-union h ts) ∙ closed_parts.union_is (map (put h) ts)) ∙ k);
    tuple = λ ts e k.
        ap is_closed (put-tuple f ts) ∙ closed_parts.tuple_is (map (put f) ts) ∙ all_on is_closed ts e (sym (ap is_closed (put-tuple h ts) ∙ closed_parts.tuple_is (map (put h) ts)) ∙ k);
    nominal = λ m ts e k.
        (let c = sym (ap is_closed (put-nominal h m ts)) ∙ k in
        ap is_closed (put-nominal f m ts)
        ∙ closed_parts.others m (map (put h) ts) (map (put f) ts) c (map_length (put f) ts ∙ sym (map_length (put h) ts)) (all_on is_closed ts e (closed_parts.arguments m (map (put h) ts) c)));
    var = λ v k. ap is_closed (put-var f v) ∙ (like v).closed (sym (ap is_closed (put-var h v)) ∙ k);
  })

  argument_on : (t : Ty) → is_argument (put h t) ≡ true → is_argument (put f t) ≡ true
  argument_on = by_cases (λ t. is_argument (put h t) ≡ true → is_argument (put f t) ≡ true) (record {
    any = λ k. ap is_argument (put-any f) ∙ argument-any;
    union = λ ts e k.
        ap is_argument (put-union f ts) ∙ argument-union (map (put f) ts)
        ∙ all_on is_closed ts (each_all (λ t. is_closed (put h t) ≡ true → is_closed (put f t) ≡ true) closed_on ts) (sym (ap is_argument (put-union h ts) ∙ argument-union (map (put h) ts)) ∙ k);
    tuple = λ ts e k.
        ap is_argument (put-tuple f ts) ∙ argument-tuple (map (put f) ts)
        ∙ all_on is_closed ts (each_all (λ t. is_closed (put h t) ≡ true → is_closed (put f t) ≡ true) closed_on ts) (sym (ap is_argument (put-tuple h ts) ∙ argument-tuple (map (put h) ts)) ∙ k);
    nominal = λ m ts e k.
        ap is_argument (put-nominal f m ts) ∙ argument-nominal m (map (put f) ts) ∙ all_on is_argument ts e (sym (ap is_argument (put-nominal h m ts) ∙ argument-nominal m (map (put h) ts)) ∙ k);
    var = λ v k. ap is_argument (put-var f v) ∙ (like v).argument;
  })

  component_on : (t : Ty) → is_component (put h t) ≡ true → is_component (put f t) ≡ true
  component_on = by_cases (λ t. is_component (put h t) ≡ true → is_component (put f t) ≡ true) (record {
    any = λ k. ap is_component (put-any f) ∙ component-any;
    union = λ ts e k.
        ap is_component (put-union f ts) ∙ component-union (map (put f) ts) ∙ all_on is_component ts e (sym (ap is_component (put-union h ts) ∙ component-union (map (put h) ts)) ∙ k);
    tuple = λ ts e k.
        ap is_component (put-tuple f ts) ∙ component-tuple (map (put f) ts) ∙ all_on is_component ts e (sym (ap is_component (put-tuple h ts) ∙ component-tuple (map (put h) ts)) ∙ k);
    nominal = λ m ts e k.
        ap is_component (put-nominal f m ts) ∙ component-nominal m (map (put f) ts)
        ∙ all_on is_argument ts (each_all (λ t. is_argument (put h t) ≡ true → is_argument (put f t) ≡ true) argument_on ts) (sym (ap is_component (put-nominal h m ts) ∙ component-nominal m (map (put h) ts)) ∙ k);
    var = λ v k. ap is_component (put-var f v) ∙ (like v).component;
  })

-- ---- static parameters

closed_at : (ts : List Ty) (i : ℕ) → list_all is_closed ts ≡ true → is_closed (get_or ts i W.Any) ≡ true
closed_at [] i h = closed-any
closed_at (t ∷ ts) zero h = and_l (is_closed t) (list_all is_closed ts) h
closed_at (t ∷ ts) (suc i) h = closed_at ts i (and_r (is_closed t) (list_all is_closed ts) h)

like_at : (own : Bool) (v : ℕ) (t : Ty) → is_closed t ≡ true → IsLike (cond own (W.Var v) W.Any) (cond own (W.Var v) t)
like_at true v t c = record { closed = λ h. h; argument = argument-var v; component = component-var v }
like_at false v t c = record { closed = λ h. c; argument = closed_argument t c; component = closed_component t c }

no_vars : (ns : List ℕ) → nat_eq (length ns) 0 ≡ true → ns ≡ []
no_vars [] h = refl
no_vars (k ∷ ks) h = let e : length (k ∷ ks) ≡ 0 = grind (arith, h) in absurd (omega (arith, e))

stays_closed : (f : ℕ → Ty) (t : Ty) → is_closed t ≡ true → is_closed (put f t) ≡ true
stays_closed f t h = ap is_closed (put-closed f t (no_vars (vars_in t) h)) ∙ h

-- ---- bounds

-- what is put for a variable is closed, or the variable
module _ (f : ℕ → Ty) (may : (v : ℕ) → is_argument (f v) ≡ true) where
  closed_puts : (ts : List Ty) → list_all is_closed ts ≡ true → list_all is_closed (map (put f) ts) ≡ true
  closed_puts [] h = refl
  closed_puts (t ∷ ts) h =
      both_true (is_closed (put f t)) (list_all is_closed (map (put f) ts)) (stays_closed f t (and_l (is_closed t) (list_all is_closed ts) h)) (closed_puts ts (and_r (is_closed t) (list_all is_closed ts) h))

  argument_puts : (ts : List Ty) → Each (λ t. is_argument t ≡ true → is_argument (put f t) ≡ true) ts → list_all is_argument ts ≡ true → list_all is_argument (map (put f) ts) ≡ true
  argument_puts [] e h = refl
  argument_puts (t ∷ ts) e h =
      both_true (is_argument (put f t)) (list_all is_argument (map (put f) ts)) (e.0 (and_l (is_argument t) (list_all is_argument ts) h)) (argument_puts ts e.1 (and_r (is_argument t) (list_all is_argument ts) h))

  stays_argument : (t : Ty) → is_argument t ≡ true → is_argument (put f t) ≡ true
  stays_argument = by_cases (λ t. is_argument t ≡ true → is_argument (put f t) ≡ true) (record {
    any = λ h. ap is_argument (put-any f) ∙ h;
    union = λ ts e h. ap is_argument (put-union f ts) ∙ argument-union (map (put f) ts) ∙ closed_puts ts (sym (argument-union ts) ∙ h);
    tuple = λ ts e h. ap is_argument (put-tuple f ts) ∙ argument-tuple (map (put f) ts) ∙ closed_puts ts (sym (argument-tuple ts) ∙ h);
    nominal = λ k ts e h. ap is_argument (put-nominal f k ts) ∙ argument-nominal k (map (put f) ts) ∙ argument_puts ts e (sym (argument-nominal k ts) ∙ h);
    var = λ v h. ap is_argument (put-var f v) ∙ may v;
  })

-- where p holds of the variables of a type, and of those in what is put for each, it holds of those in the type with these put in
module _ (f : ℕ → Ty) (p : ℕ → Bool) (keeps : (v : ℕ) → p v ≡ true → list_all p (vars_in (f v)) ≡ true) where
  vars_put_all : (ts : List Ty) → Each (λ t. list_all p (vars_in t) ≡ true → list_all p (vars_in (put f t)) ≡ true) ts → list_all p (flat_map vars_in ts) ≡ true
      → list_all p (flat_map vars_in (map (put f) ts)) ≡ true
  vars_put_all [] e h = refl
  vars_put_all (t ∷ ts) e h =
      let k = sym (list_all-append p (vars_in t) (flat_map vars_in ts)) ∙ h in
      list_all-append p (vars_in (put f t)) (flat_map vars_in (map (put f) ts))
      ∙ both_true (list_all p (vars_in (put f t))) (list_all p (flat_map vars_in (map (put f) ts))) (e.0 (and_l (list_all p (vars_in t)) (list_all p (flat_map vars_in ts)) k))
      (vars_put_all ts e.1 (and_r (list_all p (vars_in t)) (list_all p (flat_map vars_in ts)) k))

  vars_put : (t : Ty) → list_all p (vars_in t) ≡ true → list_all p (vars_in (put f t)) ≡ true
  vars_put = by_cases (λ t. list_all p (vars_in t) ≡ true → list_all p (vars_in (put f t)) ≡ true) (record {
    any = λ h. ap (λ t. list_all p (vars_in t)) (put-any f) ∙ h;
    union = λ ts e h. ap (λ t. list_all p (vars_in t)) (put-union f ts) ∙ ap (list_all p) (vars-union (map (put f) ts)) ∙ vars_put_all ts e (sym (ap (list_all p) (vars-union ts)) ∙ h);
    tuple = λ ts e h. ap (λ t. list_all p (vars_in t)) (put-tuple f ts) ∙ ap (list_all p) (vars-tuple (map (put f) ts)) ∙ vars_put_all ts e (sym (ap (list_all p) (vars-tuple ts)) ∙ h);
    nominal = λ k ts e h.
        ap (λ t. list_all p (vars_in t)) (put-nominal f k ts) ∙ ap (list_all p) (vars-nominal k (map (put f) ts)) ∙ vars_put_all ts e (sym (ap (list_all p) (vars-nominal k ts)) ∙ h);
    var = λ v h. ap (λ t. list_all p (vars_in t)) (put-var f v) ∙ keeps v (and_l (p v) true (sym (ap (list_all p) (vars-var v)) ∙ h));
  })

bottom_is : (t : Ty) → is_bottom t ≡ true → t ≡ T.Union []
bottom_is t = by (out-Ty t) refl
  where
    by : (y : Ty-F Ty) → out-Ty t ≡ y → bottom_form y ≡ true → t ≡ T.Union []
    by Any e h = absurd (true≢false (sym h))
    by (Union []) e h = is_union t [] e
    by (Union (u ∷ us)) e h = absurd (true≢false (sym h))
    by (Tuple ts) e h = absurd (true≢false (sym h))
    by (Nominal k ts) e h = absurd (true≢false (sym h))
    by (Var v) e h = absurd (true≢false (sym h))

or_true : (a b : Bool) → b ≡ true → (a || b) ≡ true
or_true true b h = refl
or_true false b h = h

module _ (statics : List Ty) (c : list_all is_closed statics ≡ true) (m : ℕ) where
  abbrev f : ℕ → Ty
  f = own_or_bound statics m

  abbrev is_before : ℕ → ℕ → Bool
  is_before v w = nat_lt w v || not (nat_lt w m)

  static_closed : (v : ℕ) → is_closed (get_or statics (v - m) W.Any) ≡ true
  static_closed v = closed_at statics (v - m) c

  may_stand : (v : ℕ) → is_argument (f v) ≡ true
  may_stand v = by (nat_lt v m)
    where
      by : (own : Bool) → is_argument (cond own (W.Var v) (get_or statics (v - m) W.Any)) ≡ true
      by true = argument-var v
      by false = closed_argument (get_or statics (v - m) W.Any) (static_closed v)

  keeps_before : (v w : ℕ) → is_before v w ≡ true → list_all (is_before v) (vars_in (f w)) ≡ true
  keeps_before v w h = by (nat_lt w m)
    where
      by : (own : Bool) → list_all (is_before v) (vars_in (cond own (W.Var w) (get_or statics (w - m) W.Any))) ≡ true
      by true = ap (list_all (is_before v)) (vars-var w) ∙ both_true (is_before v w) true h refl
      by false = ap (list_all (is_before v)) (no_vars (vars_in (get_or statics (w - m) W.Any)) (static_closed w))

  abbrev put_named : ℕ → Bound → Bool
  put_named v b = is_bottom (put f b.low) && named_form (out-Ty (put f b.high)) && list_all (is_before v) (vars_in (put f b.high))

  named_with : (v : ℕ) (b : Bound) → IsNamedBound m v b → put_named v b ≡ true
  named_with v b n =
      let bottom = is_bottom (put f b.low) in
      let form = named_form (out-Ty (put f b.high)) in
      let t = named_is b.high n.high in
      let low : bottom ≡ true = ap is_bottom (ap (put f) (bottom_is b.low n.low) ∙ put-union f []) ∙ ap bottom_form (outs-Union []) in
      let named : form ≡ true =
      ap (λ u. named_form (out-Ty u)) (ap (put f) t.2 ∙ put-nominal f t.0 t.1) ∙ ap named_form (outs-Nominal t.0 (map (put f) t.1))
      ∙ argument_puts f may_stand t.1 (each_all (λ u. is_argument u ≡ true → is_argument (put f u) ≡ true) (stays_argument f may_stand) t.1) t.3 in
      both_true (bottom && form) (list_all (is_before v) (vars_in (put f b.high))) (both_true bottom form low named) (vars_put f (is_before v) (keeps_before v) b.high n.before)

  bound_with : (v : ℕ) (b : Bound) → is_bound m v b ≡ true → is_bound m v (put_bound f b) ≡ true
  bound_with v b h = let k = bound_is m v b h in both_true (is_closed (put f b.low)) (is_closed (put f b.high) || put_named v b) (stays_closed f b.low k.0) (by k.1)
    where
      by : (is_closed b.high ≡ true) ⊎ IsNamedBound m v b → (is_closed (put f b.high) || put_named v b) ≡ true
      by (inl e) = ap (λ x. x || put_named v b) (stays_closed f b.high e)
      by (inr n) = or_true (is_closed (put f b.high)) (put_named v b) (named_with v b n)

  bounds_with : (v : ℕ) (bs : List Bound) → are_bounds m v bs ≡ true → are_bounds m v (map (put_bound f) bs) ≡ true
  bounds_with v [] h = refl
  bounds_with v (b ∷ bs) h =
      both_true (is_bound m v (put_bound f b)) (are_bounds m (v + 1) (map (put_bound f) bs)) (bound_with v b (and_l (is_bound m v b) (are_bounds m (v + 1) bs) h))
      (bounds_with (v + 1) bs (and_r (is_bound m v b) (are_bounds m (v + 1) bs) h))

bounds_length : (f : ℕ → Ty) (bs : List Bound) → length (map (put_bound f) bs) ≡ length bs
bounds_length f [] = refl
bounds_length f (b ∷ bs) = ap suc (bounds_length f bs)

placed_with : (statics : List Ty) (t : Written) → list_all is_closed statics ≡ true → are_placed (without_statics t) ≡ true → are_placed (with_statics statics t) ≡ true
placed_with statics t c h =
    let own : ℕ = length t.vars in
    let f : ℕ → Ty = own_or_bound statics own in
    let bounds = and_l (are_bounds own 0 t.vars) (list_all is_component (map (put (own_or_any own)) t.parts)) h in
    let parts = and_r (are_bounds own 0 t.vars) (list_all is_component (map (put (own_or_any own)) t.parts)) h in
    let like : (v : ℕ) → IsLike (own_or_any own v) (f v) = λ v. like_at (nat_lt v own) v (get_or statics (v - own) W.Any) (closed_at statics (v - own) c) in
    let with = map (put_bound f) t.vars in
    both_true (are_bounds (length with) 0 with) (list_all is_component (map (put f) t.parts))
    (subst (λ n. are_bounds n 0 with ≡ true) (sym (bounds_length f t.vars)) (bounds_with statics c own 0 t.vars bounds))
    (all_on (own_or_any own) f like is_component t.parts
    (each_all (λ p. is_component (put (own_or_any own) p) ≡ true → is_component (put f p) ≡ true) (component_on (own_or_any own) f like) t.parts) parts)

-- a type in a body with a broken bound has a fault to tell
pub body_told : (ds : List Decl) → Declared ds → (statics : List Ty) (t : Written) → list_all is_closed statics ≡ true → (VariablePlace (without_statics t) → ⊥) → BoundBroken ds (with_statics statics t)
    → Sure ((e : Fault) × is_bad_parameter ds (nominals_of (with_statics statics t)) e)
body_told ds d statics t c well broken = bad_told ds d (with_statics statics t) not_wrong (one_broken ds (with_statics statics t) broken)
  where
    by : (p : Bool) → are_placed (without_statics t) ≡ p → are_placed (without_statics t) ≡ true
    by true e = e
    by false e = absurd (well e)

    not_wrong : VariablePlace (with_statics statics t) → ⊥
    not_wrong e = let z : true ≡ false = sym (placed_with statics t c (by (are_placed (without_statics t)) refl)) ∙ e in cc
