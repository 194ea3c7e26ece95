-- Where a row of refusals asks for a fault, the fault can be told: a nominal type that breaks a declared bound has a form to name, and a
-- part that is not of its field's type is preceded by a first one.
use Rattle.std.proofs.Common.{◌≡◌, ◌∙◌, sym, ap, subst, refl, ℕ, zero, suc, ◌+◌, ◌<◌, ◌⊎◌, inl, inr, arith, Bool, true, false, true≢false, ◌&&◌, ◌||◌, not, nat_lt, List, [], ◌∷◌, ◌++◌, length, take, get_or, Some, slice_get}
use Rattle.std.specs.List.{Contains, flat_map, list_all}
use Rattle.std.proofs.lemmas.List.Elements.{Contains-append_cases}
use Rattle.jl_model.specs.declared.ty.Ty.{Ty, out-Ty}
use Rattle.jl_model.specs.declared.ty.Ty.TheOpen.{Ty-F, Any, Union, Tuple, Nominal, Var}
use Rattle.jl_model.specs.declared.ty.Ty.TheVariants as W
use Rattle.jl_model.specs.declared.ty.Ty.TheViews as T
use Rattle.jl_model.specs.declared.ty.Ty.TheViews.{rolls-Any, rolls-Union, rolls-Tuple, rolls-Nominal, rolls-Var, outs-Nominal, outs-Var}
use Rattle.jl_model.specs.declared.ty.Ty.TheFolds.{para-roll-Ty}
use Rattle.jl_model.specs.declared.ty.Bound.{Bound}
use Rattle.jl_model.specs.declared.ty.Decl.{Decl}
use Rattle.jl_model.specs.declared.ty.Written.{Written}
use Rattle.jl_model.specs.Ancestors.{table_of}
use Rattle.jl_model.specs.Kept.{Argument, AllArguments, closed, variable, nominal as with_arguments, arguments_end, arguments_more, Settled, nominal as named_type}
use Rattle.jl_model.specs.Refusals.{Declared, bound_types}
use Rattle.jl_model.specs.Rows.{width, vars_in}
use Rattle.jl_model.specs.SigRefusals.{VariablePlace, are_placed, is_argument, argument_step, is_component, component_step, is_bottom, named_form, is_bound, are_bounds}
use Rattle.jl_model.specs.Signature.{Both, both_end, both_more}
use Rattle.jl_model.specs.Subtype.{Table, opaque, Below}
use Rattle.jl_model.specs.Valid.{is_closed}
use Rattle.jl_model.proofs.FormLemmas.{all_firsts, all_seconds, is_nominal}
use Rattle.jl_model.proofs.PutLemmas.{and_l, and_r, both_true}
use Rattle.jl_model.proofs.TypeInduction.{Each, by_cases}
use Rattle.jl_types.proofs.ExistLemmas.{exists}
use Rattle.jl_types.proofs.PartsLemmas.{closed_parts, closed-any}
use Rattle.jl_program.specs.declared.fault.Fault.{Fault}
use Rattle.jl_program.specs.declared.fault.Fault.TheVariants as F
use Rattle.jl_program.specs.Making.{IsFirstOther}
use Rattle.jl_calculus.specs.Laws.{HasBroken}
use Rattle.jl_calculus.specs.Statics.{nominals_in, nominals_of, IsBroken, IsFirstBroken, is_bad_parameter}
use Rattle.jl_calculus.proofs.BrokenLemmas.{no_member, flat_from, nominals-union, nominals-tuple, nominals-nominal, nominals-any, nominals-var}
use Rattle.jl_calculus.proofs.SureLemmas.{Sure, Known, sure_known, In, in_of, sure_each}

-- ---- where variables may stand

pub argument-any : is_argument W.Any ≡ true
argument-any = ap is_argument (sym rolls-Any) ∙ para-roll-Ty Bool argument_step Any

pub argument-var : (v : ℕ) → is_argument (W.Var v) ≡ true
argument-var v = ap is_argument (sym (rolls-Var v)) ∙ para-roll-Ty Bool argument_step (Var v)

pub argument-union : (ts : List Ty) → is_argument (T.Union ts) ≡ list_all is_closed ts
argument-union ts = ap is_argument (sym (rolls-Union ts)) ∙ para-roll-Ty Bool argument_step (Union ts) ∙ all_firsts is_argument is_closed ts

pub argument-tuple : (ts : List Ty) → is_argument (T.Tuple ts) ≡ list_all is_closed ts
argument-tuple ts = ap is_argument (sym (rolls-Tuple ts)) ∙ para-roll-Ty Bool argument_step (Tuple ts) ∙ all_firsts is_argument is_closed ts

pub argument-nominal : (k : ℕ) (ts : List Ty) → is_argument (T.Nominal k ts) ≡ list_all is_argument ts
argument-nominal k ts = ap is_argument (sym (rolls-Nominal k ts)) ∙ para-roll-Ty Bool argument_step (Nominal k ts) ∙ all_seconds is_argument ts

pub component-union : (ts : List Ty) → is_component (T.Union ts) ≡ list_all is_component ts
component-union ts = ap is_component (sym (rolls-Union ts)) ∙ para-roll-Ty Bool component_step (Union ts) ∙ all_seconds is_component ts

pub component-tuple : (ts : List Ty) → is_component (T.Tuple ts) ≡ list_all is_component ts
component-tuple ts = ap is_component (sym (rolls-Tuple ts)) ∙ para-roll-Ty Bool component_step (Tuple ts) ∙ all_seconds is_component ts

pub component-nominal : (k : ℕ) (ts : List Ty) → is_component (T.Nominal k ts) ≡ list_all is_argument ts
component-nominal k ts = ap is_component (sym (rolls-Nominal k ts)) ∙ para-roll-Ty Bool component_step (Nominal k ts) ∙ all_firsts is_component is_argument ts

-- one by one
each_passes : (p : Ty → Bool) (Q : Ty → Type 0) (ts : List Ty) → Each (λ t. p t ≡ true → Q t) ts → list_all p ts ≡ true → Each Q ts
each_passes p Q [] e h = tt
each_passes p Q (t ∷ ts) e h = (e.0 (and_l (p t) (list_all p ts) h), each_passes p Q ts e.1 (and_r (p t) (list_all p ts) h))

all_pass : (p : Ty → Bool) (ts : List Ty) → Each (λ t. p t ≡ true) ts → list_all p ts ≡ true
all_pass p [] e = refl
all_pass p (t ∷ ts) e = both_true (p t) (list_all p ts) e.0 (all_pass p ts e.1)

pub each_all : (Q : Ty → Type 0) → ((t : Ty) → Q t) → (ts : List Ty) → Each Q ts
each_all Q q [] = tt
each_all Q q (t ∷ ts) = (q t, each_all Q q ts)

-- a type without variables may stand anywhere
pub closed_argument : (t : Ty) → is_closed t ≡ true → is_argument t ≡ true
closed_argument = by_cases (λ t. is_closed t ≡ true → is_argument t ≡ true) (record {
  any = λ h. argument-any;
  union = λ ts e h. argument-union ts ∙ sym (closed_parts.union_is ts) ∙ h;
  tuple = λ ts e h. argument-tuple ts ∙ sym (closed_parts.tuple_is ts) ∙ h;
  nominal = λ k ts e h. argument-nominal k ts ∙ all_pass is_argument ts (each_passes is_closed (λ t. is_argument t ≡ true) ts e (closed_parts.arguments k ts h));
  var = λ v h. argument-var v;
})

-- ---- bounds

pub or_either : (a b : Bool) → (a || b) ≡ true → (a ≡ true) ⊎ (b ≡ true)
or_either true b h = inl refl
or_either false b h = inr h

-- an upper bound with variables is a nominal type, with these in its arguments
pub named_is : (t : Ty) → named_form (out-Ty t) ≡ true → (k : ℕ) × (ts : List Ty) × (t ≡ T.Nominal k ts) × (list_all is_argument ts ≡ true)
named_is t = by (out-Ty t) refl
  where
    by : (y : Ty-F Ty) → out-Ty t ≡ y → named_form y ≡ true → (k : ℕ) × (ts : List Ty) × (t ≡ T.Nominal k ts) × (list_all is_argument ts ≡ true)
    by Any e h = absurd (true≢false (sym h))
    by (Union ts) e h = absurd (true≢false (sym h))
    by (Tuple ts) e h = absurd (true≢false (sym h))
    by (Nominal k ts) e h = (k, ts, is_nominal t k ts e, h)
    by (Var v) e h = absurd (true≢false (sym h))

-- what a bound with variables is
pub record IsNamedBound (m v : ℕ) (b : Bound) : Type 0 where
  pub low : is_bottom b.low ≡ true
  pub high : named_form (out-Ty b.high) ≡ true
  pub before : list_all (λ w. nat_lt w v || not (nat_lt w m)) (vars_in b.high) ≡ true

named_bound : (m v : ℕ) (b : Bound) → (is_bottom b.low && named_form (out-Ty b.high) && list_all (λ w. nat_lt w v || not (nat_lt w m)) (vars_in b.high)) ≡ true → IsNamedBound m v b
named_bound m v b h =
    let bottom = is_bottom b.low in
    let form = named_form (out-Ty b.high) in
    let before = list_all (λ w. nat_lt w v || not (nat_lt w m)) (vars_in b.high) in
    let l = and_l (bottom && form) before h in
    record { low = and_l bottom form l; high = and_r bottom form l; before = and_r (bottom && form) before h }

pub bound_is : (m v : ℕ) (b : Bound) → is_bound m v b ≡ true → (is_closed b.low ≡ true) × ((is_closed b.high ≡ true) ⊎ IsNamedBound m v b)
bound_is m v b h =
    let named = is_bottom b.low && named_form (out-Ty b.high) && list_all (λ w. nat_lt w v || not (nat_lt w m)) (vars_in b.high) in
    (and_l (is_closed b.low) (is_closed b.high || named) h, by named (named_bound m v b) (or_either (is_closed b.high) named (and_r (is_closed b.low) (is_closed b.high || named) h)))
  where
    by : (named : Bool) → (named ≡ true → IsNamedBound m v b) → (is_closed b.high ≡ true) ⊎ (named ≡ true) → (is_closed b.high ≡ true) ⊎ IsNamedBound m v b
    by named f (inl c) = inl c
    by named f (inr k) = inr (f k)

-- no variable stands in a union or a tuple of a bound
bound_argument : (m v : ℕ) (b : Bound) → is_bound m v b ≡ true → (is_argument b.low ≡ true) × (is_argument b.high ≡ true)
bound_argument m v b h = let k = bound_is m v b h in (closed_argument b.low k.0, by k.1)
  where
    by : (is_closed b.high ≡ true) ⊎ IsNamedBound m v b → is_argument b.high ≡ true
    by (inl c) = closed_argument b.high c
    by (inr n) = let t = named_is b.high n.high in ap is_argument t.2 ∙ argument-nominal t.0 t.1 ∙ t.3

bounds_argument : (m v : ℕ) (bs : List Bound) → are_bounds m v bs ≡ true → list_all is_argument (bound_types bs) ≡ true
bounds_argument m v [] h = refl
bounds_argument m v (b ∷ bs) h =
    let a = bound_argument m v b (and_l (is_bound m v b) (are_bounds m (v + 1) bs) h) in
    let rest = bounds_argument m (v + 1) bs (and_r (is_bound m v b) (are_bounds m (v + 1) bs) h) in
    both_true (is_argument b.low) (list_all is_argument (b.high ∷ bound_types bs)) a.0 (both_true (is_argument b.high) (list_all is_argument (bound_types bs)) a.1 rest)

-- ---- the nominal types in such a type

-- no variable stands in a union or a tuple below this nominal type
record IsGood (x : Ty) : Type 0 where
  name : ℕ
  arguments : List Ty
  is : x ≡ T.Nominal name arguments
  placed : list_all is_argument arguments ≡ true

abbrev AllGood : List Ty → Type 0
AllGood ts = (x : Ty) → Contains ts x → IsGood x

good_at : (ts : List Ty) → Each (λ t. AllGood (nominals_in t)) ts → (t : Ty) → Contains ts t → AllGood (nominals_in t)
good_at [] e t c = absurd (no_member t c)
good_at (u ∷ ts) e t (zero, l, i) = subst (λ z. AllGood (nominals_in z)) i e.0
good_at (u ∷ ts) e t (suc k, l, i) = good_at ts e.1 t (k, omega (arith, l), i)

good_flat : (ts : List Ty) → Each (λ t. AllGood (nominals_in t)) ts → AllGood (flat_map nominals_in ts)
good_flat ts e x c = let r = flat_from nominals_in ts x c in good_at ts e r.0 r.1 x r.2

lone_member : (x y : Ty) → Contains (x ∷ []) y → x ≡ y
lone_member x y (zero, l, e) = e
lone_member x y (suc k, l, e) = absurd (omega (arith, l))

good_nominal : (k : ℕ) (ts : List Ty) → list_all is_argument ts ≡ true → Each (λ t. AllGood (nominals_in t)) ts → AllGood (nominals_in (T.Nominal k ts))
good_nominal k ts h e x c = by (Contains-append_cases (flat_map nominals_in ts) (T.Nominal k ts ∷ []) x (subst (λ us. Contains us x) (nominals-nominal k ts) c))
  where
    by : Contains (flat_map nominals_in ts) x ⊎ Contains (T.Nominal k ts ∷ []) x → IsGood x
    by (inl d) = good_flat ts e x d
    by (inr d) = record { name = k; arguments = ts; is = sym (lone_member (T.Nominal k ts) x d); placed = h }

argument_good : (t : Ty) → is_argument t ≡ true → AllGood (nominals_in t)
argument_good = by_cases (λ t. is_argument t ≡ true → AllGood (nominals_in t)) (record {
  any = λ h x c. absurd (no_member x (subst (λ us. Contains us x) nominals-any c));
  union = λ ts e h. subst AllGood (sym (nominals-union ts)) (good_flat ts (closed_each ts e (sym (argument-union ts) ∙ h)));
  tuple = λ ts e h. subst AllGood (sym (nominals-tuple ts)) (good_flat ts (closed_each ts e (sym (argument-tuple ts) ∙ h)));
  nominal = λ k ts e h. let a = sym (argument-nominal k ts) ∙ h in good_nominal k ts a (each_passes is_argument (λ t. AllGood (nominals_in t)) ts e a);
  var = λ v h x c. absurd (no_member x (subst (λ us. Contains us x) (nominals-var v) c));
})
  where
    closed_each : (ts : List Ty) → Each (λ t. is_argument t ≡ true → AllGood (nominals_in t)) ts → list_all is_closed ts ≡ true → Each (λ t. AllGood (nominals_in t)) ts
    closed_each [] e h = tt
    closed_each (t ∷ ts) e h = (e.0 (closed_argument t (and_l (is_closed t) (list_all is_closed ts) h)), closed_each ts e.1 (and_r (is_closed t) (list_all is_closed ts) h))

component_good : (t : Ty) → is_component t ≡ true → AllGood (nominals_in t)
component_good = by_cases (λ t. is_component t ≡ true → AllGood (nominals_in t)) (record {
  any = λ h x c. absurd (no_member x (subst (λ us. Contains us x) nominals-any c));
  union = λ ts e h. subst AllGood (sym (nominals-union ts)) (good_flat ts (each_passes is_component (λ t. AllGood (nominals_in t)) ts e (sym (component-union ts) ∙ h)));
  tuple = λ ts e h. subst AllGood (sym (nominals-tuple ts)) (good_flat ts (each_passes is_component (λ t. AllGood (nominals_in t)) ts e (sym (component-tuple ts) ∙ h)));
  nominal = λ k ts e h.
      (let a = sym (component-nominal k ts) ∙ h in
      good_nominal k ts a (each_passes is_argument (λ t. AllGood (nominals_in t)) ts (each_all (λ t. is_argument t ≡ true → AllGood (nominals_in t)) argument_good ts) a));
  var = λ v h x c. absurd (no_member x (subst (λ us. Contains us x) (nominals-var v) c));
})

part_good : (s : Written) → are_placed s ≡ true → (t : Ty) → Contains s.parts t ⊎ Contains (bound_types s.vars) t → AllGood (nominals_in t)
part_good s h t (inl c) =
    good_at s.parts
    (each_passes is_component (λ u. AllGood (nominals_in u)) s.parts (each_all (λ u. is_component u ≡ true → AllGood (nominals_in u)) component_good s.parts)
    (and_r (are_bounds (width s) 0 s.vars) (list_all is_component s.parts) h)) t c
part_good s h t (inr c) =
    good_at (bound_types s.vars)
    (each_passes is_argument (λ u. AllGood (nominals_in u)) (bound_types s.vars) (each_all (λ u. is_argument u ≡ true → AllGood (nominals_in u)) argument_good (bound_types s.vars))
    (bounds_argument (width s) 0 s.vars (and_l (are_bounds (width s) 0 s.vars) (list_all is_component s.parts) h))) t c

all_good : (s : Written) → are_placed s ≡ true → AllGood (nominals_of s)
all_good s h x c =
    let r = flat_from nominals_in (s.parts ++ bound_types s.vars) x c in
    part_good s h r.0 (Contains-append_cases s.parts (bound_types s.vars) r.0 r.1) x r.2

-- ---- the form to name

module _ (ds : List Decl) (d : Declared ds) where
  abbrev n : Table
  n = table_of ds

  abbrev HasArgument : Ty → Type 0
  HasArgument t = (u : Ty) × Argument n t u

  by_closed : (t : Ty) → is_closed t ≡ true → HasArgument t
  by_closed t c = let r = exists ds d t in (r.0, closed t r.0 c r.1.form)

  arguments_there : (ts : List Ty) → Each HasArgument ts → (us : List Ty) × AllArguments n ts us
  arguments_there [] e = ([], arguments_end)
  arguments_there (t ∷ ts) e = let r = arguments_there ts e.1 in (e.0.0 ∷ r.0, arguments_more t e.0.0 ts r.0 e.0.1 r.1)

  nominal_there : (b : Bool) (k : ℕ) (ts : List Ty) → is_closed (T.Nominal k ts) ≡ b → Each HasArgument ts → HasArgument (T.Nominal k ts)
  nominal_there true k ts c e = by_closed (T.Nominal k ts) c
  nominal_there false k ts c e =
      let r = arguments_there ts e in
      (T.Nominal k r.0, with_arguments (T.Nominal k ts) (T.Nominal k r.0) k ts r.0 c (outs-Nominal k ts) (outs-Nominal k r.0) r.1)

  argument_there : (t : Ty) → is_argument t ≡ true → HasArgument t
  argument_there = by_cases (λ t. is_argument t ≡ true → HasArgument t) (record {
    any = λ h. by_closed W.Any closed-any;
    union = λ ts e h. by_closed (T.Union ts) (closed_parts.union_is ts ∙ sym (argument-union ts) ∙ h);
    tuple = λ ts e h. by_closed (T.Tuple ts) (closed_parts.tuple_is ts ∙ sym (argument-tuple ts) ∙ h);
    nominal = λ k ts e h. nominal_there (is_closed (T.Nominal k ts)) k ts refl (each_passes is_argument HasArgument ts e (sym (argument-nominal k ts) ∙ h));
    var = λ v h. (W.Var v, variable (W.Var v) v (outs-Var v));
  })

  settled_there : (x : Ty) → IsGood x → (u : Ty) × Settled n x u
  settled_there x g =
      let r = arguments_there g.arguments (each_passes is_argument HasArgument g.arguments (each_all (λ t. is_argument t ≡ true → HasArgument t) argument_there g.arguments) g.placed) in
      let o : out-Ty x ≡ Nominal g.name g.arguments = ap out-Ty g.is ∙ outs-Nominal g.name g.arguments in
      (T.Nominal g.name r.0, named_type x (T.Nominal g.name r.0) g.name g.arguments r.0 o (outs-Nominal g.name r.0) r.1)

  -- ---- the first one

  abbrev First : List Ty → Type 0
  First ts = ((t : Ty) × IsFirstBroken ds ts t) ⊎ ((t : Ty) → In t ts → IsBroken ds t → ⊥)

  first_at : (t : Ty) (ts : List Ty) → Known (IsBroken ds t) → First ts → First (t ∷ ts)
  first_at t ts (inl b) f = inl (t, record { place = 0; there = refl; broken = b; first = λ i u l e k. absurd (omega (arith, l)) })
  first_at t ts (inr none) (inl (u, h)) = inl (u, record { place = suc h.place; there = h.there; broken = h.broken; first = before })
    where
      before : (i : ℕ) (v : Ty) → i < suc h.place → slice_get (t ∷ ts) i ≡ Some v → IsBroken ds v → ⊥
      before zero v l e k = let z : t ≡ v = cc in none (subst (IsBroken ds) (sym z) k)
      before (suc i) v l e k = h.first i v (omega (arith, l)) e k
  first_at t ts (inr none) (inr f) = inr by
    where
      by : (u : Ty) → In u (t ∷ ts) → IsBroken ds u → ⊥
      by u (inl e) k = none (subst (IsBroken ds) (sym e) k)
      by u (inr i) k = f u i k

  first_in : (ts : List Ty) → ((t : Ty) → In t ts → Known (IsBroken ds t)) → First ts
  first_in [] k = inr (λ t i b. absurd i)
  first_in (t ∷ ts) k = first_at t ts (k t (inl refl)) (first_in ts (λ u i. k u (inr i)))

  there_at : (ts : List Ty) (i : ℕ) (t : Ty) → slice_get ts i ≡ Some t → Contains ts t
  there_at [] i t e = cc
  there_at (u ∷ ts) zero t e = let z : u ≡ t = cc in (zero, omega arith, z)
  there_at (u ∷ ts) (suc i) t e = let c = there_at ts i t e in (suc c.0, omega (arith, c.1), c.2)

  -- a signature with a broken bound has a fault to tell
  pub bad_told : (s : Written) → (VariablePlace s → ⊥) → HasBroken ds (nominals_of s) → Sure ((e : Fault) × is_bad_parameter ds (nominals_of s) e)
  bad_told s well (x, c, b) h = sure_each (nominals_of s) (λ t. Known (IsBroken ds t)) (λ t. sure_known (IsBroken ds t)) (λ known. by (first_in (nominals_of s) known))
    where
      placed_by : (p : Bool) → are_placed s ≡ p → are_placed s ≡ true
      placed_by true e = e
      placed_by false e = absurd (well e)

      by : First (nominals_of s) → ⊥
      by (inl (t, f)) =
          let r = settled_there t (all_good s (placed_by (are_placed s) refl) t (there_at (nominals_of s) f.place t f.there)) in
          h (F.BadParameter r.0, (t, r.0, f, r.1, refl))
      by (inr none) = none x (in_of (nominals_of s) x c) b

-- ---- the first part that is not of its field's type

module _ (ds : List Decl) where
  abbrev B : Ty → Ty → Type 0
  B = Below (table_of ds) opaque

  pub other_next : (t u : Ty) (ts us : List Ty) (i : ℕ) → B t u → IsFirstOther ds ts us i → IsFirstOther ds (t ∷ ts) (u ∷ us) (suc i)
  other_next t u ts us i b h = record { inside = omega (arith, h.inside); before = both_more t u (take i ts) (take i us) b h.before; other = h.other }

  abbrev Told : List Ty → List Ty → Type 0
  Told ts us = (Both B ts us → ⊥) → Sure ((i : ℕ) × IsFirstOther ds ts us i)

  other_step : (t u : Ty) (ts us : List Ty) → Told ts us → Known (B t u) → Told (t ∷ ts) (u ∷ us)
  other_step t u ts us later (inr other) n h = h (0, record { inside = omega arith; before = both_end; other = other })
  other_step t u ts us later (inl b) n h = later (λ k. n (both_more t u ts us b k)) (λ r. h (suc r.0, other_next t u ts us r.0 b r.1))

  pub other_told : (ts us : List Ty) → length ts ≡ length us → Told ts us
  other_told [] [] e n h = n both_end
  other_told [] (u ∷ us) e n h = absurd (omega (arith, e))
  other_told (t ∷ ts) [] e n h = absurd (omega (arith, e))
  other_told (t ∷ ts) (u ∷ us) e n h = sure_known (B t u) (λ k. other_step t u ts us (other_told ts us (omega (arith, e))) k n h)

  -- and where there is one, not all are of their types
  same_place : (ts us : List Ty) (i : ℕ) → i < length us → Both B ts us → B (get_or ts i W.Any) (get_or us i W.Any)
  same_place ts us i l both_end = absurd (omega (arith, l))
  same_place ts us zero l (both_more t u vs ws p q) = p
  same_place ts us (suc i) l (both_more t u vs ws p q) = same_place vs ws i (omega (arith, l)) q

  pub other_is : (ts us : List Ty) (i : ℕ) → IsFirstOther ds ts us i → Both B ts us → ⊥
  other_is ts us i h b = h.other (same_place ts us i h.inside b)
