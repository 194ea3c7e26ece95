-- Bounds of variables: which variables stand in them, and where.
use Rattle.std.proofs.Common.{◌≡◌, ◌∙◌, sym, ap, subst, refl, ℕ, zero, suc, ◌+◌, ◌<◌, arith, Bool, true, false, ◌&&◌, ◌||◌, not, nat_eq, nat_lt, List, [], ◌∷◌, ◌++◌, length, get_or}
use Rattle.std.specs.List.{flat_map, list_all, Contains}
use Rattle.jl_model.specs.declared.ty.Ty.{Ty}
use Rattle.jl_model.specs.declared.ty.Ty.TheOpen.{Ty-F, Any, Union, Tuple, Nominal, Var}
use Rattle.jl_model.specs.declared.ty.Ty.TheViews.{out-Ty, outs-Union}
use Rattle.jl_model.specs.declared.ty.Ty.TheViews as V
use Rattle.jl_model.specs.declared.ty.Bound.{Bound}
use Rattle.jl_model.specs.declared.ty.Decl.{Decl}
use Rattle.jl_model.specs.declared.ty.Written.{Written}
use Rattle.jl_model.specs.Ancestors.{table_of}
use Rattle.jl_model.specs.Rows.{vars_in, width}
use Rattle.jl_model.specs.Normal.{IsNormalForm}
use Rattle.jl_model.specs.Valid.{is_closed}
use Rattle.jl_model.specs.Refusals.{Declared, bound_types}
use Rattle.jl_model.specs.SigRefusals.{is_argument, is_component, is_bottom, bottom_form, named_form, is_bound, are_bounds, are_placed, VariablePlace}
use Rattle.jl_model.proofs.TypeInduction.{Each, by_cases}
use Rattle.jl_model.proofs.FormLemmas.{is_union, is_nominal}
use Rattle.jl_model.proofs.PutLemmas.{and_l, and_r, both_true}
use Rattle.jl_model.proofs.AncestorLemmas.{each_true, true_each}
use Rattle.jl_model.proofs.DeclaredLemmas.{declared_lawful, not_false}
use Rattle.jl_model.proofs.NormalLemmas.{normal_same}
use Rattle.jl_model.proofs.TransLemmas.{equal_trans}
use Rattle.jl_types.specs.Form.{Settles, any, var, union, tuple, nominal}
use Rattle.jl_types.proofs.KeepLemmas.{nominal_form}
use Rattle.jl_types.proofs.PartsLemmas.{closed-union, closed-tuple, closed-nominal, closed-var}
use Rattle.jl_sig.specs.Forms.{IsSmallForm, IsBoundForm}
use Rattle.jl_sig.proofs.FitLemmas.{argument-any, argument-var, argument-union, argument-tuple, argument-nominal, component-any, component-union, component-tuple, component-nominal}

-- a type without variables has none in a wrong place
each_of : (P Q : Ty → Type 0) (ts : List Ty) → Each (λ t. P t → Q t) ts → Each P ts → Each Q ts
each_of P Q [] e f = tt
each_of P Q (t ∷ ts) e f = (e.0 f.0, each_of P Q ts e.1 f.1)

argument_of : (t : Ty) → is_closed t ≡ true → is_argument t ≡ true
argument_of = by_cases (λ t. is_closed t ≡ true → is_argument t ≡ true) (record {
  any = λ h. argument-any;
  union = λ ts e h. argument-union ts ∙ sym (closed-union ts) ∙ h;
  tuple = λ ts e h. argument-tuple ts ∙ sym (closed-tuple ts) ∙ h;
  nominal = λ k ts e h. argument-nominal k ts ∙ each_true is_argument ts (each_of (λ t. is_closed t ≡ true) (λ t. is_argument t ≡ true) ts e (true_each is_closed ts (sym (closed-nominal k ts) ∙ h)));
  var = λ v h. argument-var v;
})

arguments_of : (ts : List Ty) → Each (λ t. is_closed t ≡ true) ts → Each (λ t. is_argument t ≡ true) ts
arguments_of [] e = tt
arguments_of (t ∷ ts) e = (argument_of t e.0, arguments_of ts e.1)

component_of : (t : Ty) → is_closed t ≡ true → is_component t ≡ true
component_of = by_cases (λ t. is_closed t ≡ true → is_component t ≡ true) (record {
  any = λ h. component-any;
  union = λ ts e h. component-union ts ∙ each_true is_component ts (each_of (λ t. is_closed t ≡ true) (λ t. is_component t ≡ true) ts e (true_each is_closed ts (sym (closed-union ts) ∙ h)));
  tuple = λ ts e h. component-tuple ts ∙ each_true is_component ts (each_of (λ t. is_closed t ≡ true) (λ t. is_component t ≡ true) ts e (true_each is_closed ts (sym (closed-tuple ts) ∙ h)));
  nominal = λ k ts e h. component-nominal k ts ∙ each_true is_argument ts (arguments_of ts (true_each is_closed ts (sym (closed-nominal k ts) ∙ h)));
  var = λ v h. absurd (let f : false ≡ true = sym (closed-var v) ∙ h in cc);
})

-- the variables of closed types
pub closed_vars : (t : Ty) → is_closed t ≡ true → vars_in t ≡ []
closed_vars t h = empty (vars_in t) h
  where
    empty : (ns : List ℕ) → nat_eq (length ns) 0 ≡ true → ns ≡ []
    empty [] e = refl
    empty (m ∷ ms) e = absurd (let f : nat_eq (length (m ∷ ms)) 0 ≡ false = grind arith in let g : true ≡ false = sym e ∙ f in cc)

pub closed_own : (p : ℕ → Bool) (ts : List Ty) → list_all is_closed ts ≡ true → list_all p (flat_map vars_in ts) ≡ true
closed_own p [] h = refl
closed_own p (t ∷ ts) h = ap (λ z. list_all p (z ++ flat_map vars_in ts)) (closed_vars t (and_l (is_closed t) (list_all is_closed ts) h)) ∙ closed_own p ts (and_r (is_closed t) (list_all is_closed ts) h)

-- bounds without variables stand where they may
pub closed_placed : (m v : ℕ) (bs : List Bound) → list_all is_closed (bound_types bs) ≡ true → are_bounds m v bs ≡ true
closed_placed m v [] h = refl
closed_placed m v (b ∷ bs) h =
    let r = and_r (is_closed b.low) (is_closed b.high && list_all is_closed (bound_types bs)) h in
    let rest = is_bottom b.low && named_form (out-Ty b.high) && list_all (λ w. nat_lt w v || not (nat_lt w m)) (vars_in b.high) in
    let q : (is_closed b.high || rest) ≡ true = ap (λ z. z || rest) (and_l (is_closed b.high) (list_all is_closed (bound_types bs)) r) in
    both_true (is_bound m v b) (are_bounds m (v + 1) bs)
    (both_true (is_closed b.low) (is_closed b.high || rest) (and_l (is_closed b.low) (is_closed b.high && list_all is_closed (bound_types bs)) h) q)
    (closed_placed m (v + 1) bs (and_r (is_closed b.high) (list_all is_closed (bound_types bs)) r))

-- A bound of variable v, of m, whose upper one has variables: it is a nominal type over variables before v, and the lower one is `Union{}`.
pub record IsNamed (m v : ℕ) (b : Bound) : Type 0 where
  pub bottom : is_bottom b.low ≡ true
  pub named : named_form (out-Ty b.high) ≡ true
  pub before : list_all (λ w. nat_lt w v || not (nat_lt w m)) (vars_in b.high) ≡ true

pub low_closed : (m v : ℕ) (b : Bound) → is_bound m v b ≡ true → is_closed b.low ≡ true
low_closed m v b h = and_l (is_closed b.low) (is_closed b.high || (is_bottom b.low && named_form (out-Ty b.high) && list_all (λ w. nat_lt w v || not (nat_lt w m)) (vars_in b.high))) h

pub high_named : (m v : ℕ) (b : Bound) → is_bound m v b ≡ true → is_closed b.high ≡ false → IsNamed m v b
high_named m v b h c =
    let before = list_all (λ w. nat_lt w v || not (nat_lt w m)) (vars_in b.high) in
    let rest = is_bottom b.low && named_form (out-Ty b.high) && before in
    let g : rest ≡ true = sym (ap (λ z. z || rest) c) ∙ and_r (is_closed b.low) (is_closed b.high || rest) h in
    let k = and_l (is_bottom b.low && named_form (out-Ty b.high)) before g in
    record {
      bottom = and_l (is_bottom b.low) (named_form (out-Ty b.high)) k;
      named = and_r (is_bottom b.low) (named_form (out-Ty b.high)) k;
      before = and_r (is_bottom b.low && named_form (out-Ty b.high)) before g;
    }

pub bound_at : (m j : ℕ) (bs : List Bound) (i : ℕ) (d : Bound) → are_bounds m j bs ≡ true → i < length bs → is_bound m (j + i) (get_or bs i d) ≡ true
bound_at m j [] i d h l = absurd (omega arith)
bound_at m j (b ∷ bs) zero d h l = let e : j + 0 ≡ j = omega arith in ap (λ z. is_bound m z b) e ∙ and_l (is_bound m j b) (are_bounds m (j + 1) bs) h
bound_at m j (b ∷ bs) (suc i) d h l =
    let e : j + suc i ≡ (j + 1) + i = omega arith in
    ap (λ z. is_bound m z (get_or bs i d)) e ∙ bound_at m (j + 1) bs i d (and_r (is_bound m j b) (are_bounds m (j + 1) bs) h) (omega arith)

pub placed_bounds : (s : Written) → (VariablePlace s → ⊥) → are_bounds (width s) 0 s.vars ≡ true
placed_bounds s p = and_l (are_bounds (width s) 0 s.vars) (list_all is_component s.parts) (not_false (are_placed s) p)

pub placed_parts : (s : Written) → (VariablePlace s → ⊥) → list_all is_component s.parts ≡ true
placed_parts s p = and_r (are_bounds (width s) 0 s.vars) (list_all is_component s.parts) (not_false (are_placed s) p)

-- bounds are as components are
pub bottom_is : (t : Ty) → is_bottom t ≡ true → t ≡ V.Union []
bottom_is t h = by (out-Ty t) refl h
  where
    by : (x : Ty-F Ty) → out-Ty t ≡ x → bottom_form x ≡ true → t ≡ V.Union []
    by Any e g = absurd (let f : false ≡ true = g in cc)
    by (Union []) e g = is_union t [] e
    by (Union (u ∷ us)) e g = absurd (let f : false ≡ true = g in cc)
    by (Tuple ts) e g = absurd (let f : false ≡ true = g in cc)
    by (Nominal k ts) e g = absurd (let f : false ≡ true = g in cc)
    by (Var v) e g = absurd (let f : false ≡ true = g in cc)

pub named_is : (t : Ty) → named_form (out-Ty t) ≡ true → (k : ℕ) × (ts : List Ty) × (t ≡ V.Nominal k ts) × (list_all is_argument ts ≡ true)
named_is t h = by (out-Ty t) refl h
  where
    by : (x : Ty-F Ty) → out-Ty t ≡ x → named_form x ≡ true → (k : ℕ) × (ts : List Ty) × (t ≡ V.Nominal k ts) × (list_all is_argument ts ≡ true)
    by Any e g = absurd (let f : false ≡ true = g in cc)
    by (Union ts) e g = absurd (let f : false ≡ true = g in cc)
    by (Tuple ts) e g = absurd (let f : false ≡ true = g in cc)
    by (Nominal k ts) e g = (k, ts, is_nominal t k ts e, g)
    by (Var v) e g = absurd (let f : false ≡ true = g in cc)

high_component : (m v : ℕ) (b : Bound) (c : Bool) → is_closed b.high ≡ c → is_bound m v b ≡ true → is_component b.high ≡ true
high_component m v b true e h = component_of b.high e
high_component m v b false e h = let n = named_is b.high (high_named m v b h e).named in ap is_component n.2 ∙ component-nominal n.0 n.1 ∙ n.3

pub bounds_components : (m v : ℕ) (bs : List Bound) (t : Ty) → are_bounds m v bs ≡ true → Contains (bound_types bs) t → is_component t ≡ true
bounds_components m v [] t h c = absurd (omega (arith, c.1))
bounds_components m v (b ∷ bs) t h (zero, l, e) = ap is_component (sym e) ∙ component_of b.low (low_closed m v b (and_l (is_bound m v b) (are_bounds m (v + 1) bs) h))
bounds_components m v (b ∷ bs) t h (suc zero, l, e) = ap is_component (sym e) ∙ high_component m v b (is_closed b.high) refl (and_l (is_bound m v b) (are_bounds m (v + 1) bs) h)
bounds_components m v (b ∷ bs) t h (suc (suc i), l, e) = bounds_components m (v + 1) bs t (and_r (is_bound m v b) (are_bounds m (v + 1) bs) h) (i, omega arith, e)

-- NORMAL FORMS
-- an upper bound with variables whose arguments stand in normal form is a normal form
pub named_normal : (ds : List Decl) (t u : Ty) → named_form (out-Ty t) ≡ true → Settles (IsNormalForm (table_of ds)) t u → IsNormalForm (table_of ds) t u
named_normal ds t u h (any x e) = absurd (let f : false ≡ true = sym (ap named_form e) ∙ h in cc)
named_normal ds t u h (var x v e) = absurd (let f : false ≡ true = sym (ap named_form e) ∙ h in cc)
named_normal ds t u h (union x y ts us e f a) = absurd (let g : false ≡ true = sym (ap named_form e) ∙ h in cc)
named_normal ds t u h (tuple x y ts us e f a) = absurd (let g : false ≡ true = sym (ap named_form e) ∙ h in cc)
named_normal ds t u h (nominal x y k ts us e f b) =
    subst (λ z. IsNormalForm (table_of ds) z u) (sym (is_nominal t k ts e)) (subst (IsNormalForm (table_of ds) (V.Nominal k ts)) (sym (is_nominal u k us f)) (nominal_form (table_of ds) k ts us b))

-- a bound without variables, from its small normal form
pub closed_form : (ds : List Decl) (t u : Ty) → is_closed t ≡ true → IsSmallForm ds t u → IsBoundForm ds t u
closed_form ds t u c f = record { form = f.form; known = f.known; small = λ k. f; named = λ e. absurd (let g : true ≡ false = sym c ∙ e in cc) }

-- there is one
pub one_form : (ds : List Decl) → Declared ds → (t u v : Ty) → IsNormalForm (table_of ds) t u → IsNormalForm (table_of ds) t v → u ≡ v
one_form ds declared t u v f g =
    let law = declared_lawful ds declared in
    normal_same (table_of ds) law u f.normal v g.normal (equal_trans (table_of ds) law u t v (f.equal.1, f.equal.0) g.equal)
