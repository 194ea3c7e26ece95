-- Two properties go by the parts: each nominal type has a number below m, and each variable passes a test.
use Rattle.std.proofs.Common.{◌≡◌, ◌∙◌, ap, refl, ℕ, zero, suc, ◌≤◌, ◌<◌, arith, Bool, true, false, ◌&&◌, nat_eq, nat_lt, List, [], ◌∷◌, ◌++◌, length, take, None, slice_get}
use Rattle.std.specs.List.{flat_map, list_all}
use Rattle.jl_model.specs.declared.ty.Ty.{Ty}
use Rattle.jl_model.specs.declared.ty.Ty.TheViews as V
use Rattle.jl_model.specs.declared.ty.Bound.{Bound}
use Rattle.jl_model.specs.declared.ty.Decl.{Decl}
use Rattle.jl_model.specs.Refusals.{bound_types}
use Rattle.jl_model.specs.Rows.{vars_in}
use Rattle.jl_model.specs.Valid.{is_known, is_closed, params_of}
use Rattle.jl_model.proofs.FormLemmas.{vars-any, vars-union, vars-tuple, vars-nominal, vars-var}
use Rattle.jl_model.proofs.KnownLemmas.{known-any, known-var, known-union, known-tuple, known-nominal}
use Rattle.jl_model.proofs.PutLemmas.{and_l, and_r, both_true}
use Rattle.jl_written.specs.declared.fault.StaticKind.TheVariants as kind
use Rattle.jl_model.specs.declared.ty.Ty.TheVariants as W
use Rattle.jl_written.specs.declared.reading.Reading.{Reading}
use Rattle.jl_written.specs.Reads.{note_use}
use Rattle.jl_type_laws.specs.Carried.{Passes, vars_pass, WhereUsable, AllHave, BoundsHave, IsCarried}
use Rattle.jl_type_laws.proofs.GrowLemmas.{never_none, fault_at}

pub all_pass : (p : Ty → Bool) (ts : List Ty) → AllHave (Passes p) ts → list_all p ts ≡ true
all_pass p [] h = refl
all_pass p (t ∷ ts) h = both_true (p t) (list_all p ts) h.0 (all_pass p ts h.1)

pub pass_all : (p : Ty → Bool) (ts : List Ty) → list_all p ts ≡ true → AllHave (Passes p) ts
pass_all p [] h = tt
pass_all p (t ∷ ts) h = (and_l (p t) (list_all p ts) h, pass_all p ts (and_r (p t) (list_all p ts) h))

pub bounds_pass : (p : Ty → Bool) (bs : List Bound) → BoundsHave (Passes p) bs → list_all p (bound_types bs) ≡ true
bounds_pass p [] h = refl
bounds_pass p (b ∷ bs) h =
    both_true (p b.low) (p b.high && list_all p (bound_types bs)) h.0.0 (both_true (p b.high) (list_all p (bound_types bs)) h.0.1 (bounds_pass p bs h.1))

pub pass_bounds : (p : Ty → Bool) (bs : List Bound) → list_all p (bound_types bs) ≡ true → BoundsHave (Passes p) bs
pass_bounds p [] h = tt
pass_bounds p (b ∷ bs) h =
    let g = and_r (p b.low) (p b.high && list_all p (bound_types bs)) h in
    ((and_l (p b.low) (p b.high && list_all p (bound_types bs)) h, and_l (p b.high) (list_all p (bound_types bs)) g), pass_bounds p bs (and_r (p b.high) (list_all p (bound_types bs)) g))

and_assoc : (a b c : Bool) → (a && (b && c)) ≡ ((a && b) && c)
and_assoc true b c = refl
and_assoc false b c = refl

pub all_append : {A : Type 0} (p : A → Bool) (xs ys : List A) → list_all p (xs ++ ys) ≡ (list_all p xs && list_all p ys)
all_append p [] ys = refl
all_append p (x ∷ xs) ys = ap (λ b. p x && b) (all_append p xs ys) ∙ and_assoc (p x) (list_all p xs) (list_all p ys)

pub all_join : {A : Type 0} (p : A → Bool) (xs ys : List A) → list_all p xs ≡ true → list_all p ys ≡ true → list_all p (xs ++ ys) ≡ true
all_join p xs ys h g = all_append p xs ys ∙ both_true (list_all p xs) (list_all p ys) h g

pub all_flat : (q : ℕ → Bool) (ts : List Ty) → list_all q (flat_map vars_in ts) ≡ list_all (vars_pass q) ts
all_flat q [] = refl
all_flat q (t ∷ ts) = all_append q (vars_in t) (flat_map vars_in ts) ∙ ap (λ b. vars_pass q t && b) (all_flat q ts)

none_pass : (q : ℕ → Bool) (ns : List ℕ) → nat_eq (length ns) 0 ≡ true → list_all q ns ≡ true
none_pass q [] h = refl
none_pass q (n ∷ ns) h = absurd (grind (arith, h))

-- a type without variables
pub closed_pass : (q : ℕ → Bool) (t : Ty) → is_closed t ≡ true → vars_pass q t ≡ true
closed_pass q t h = none_pass q (vars_in t) h

closed_all : (q : ℕ → Bool) (ts : List Ty) → list_all is_closed ts ≡ true → list_all (vars_pass q) ts ≡ true
closed_all q [] h = refl
closed_all q (t ∷ ts) h = both_true (vars_pass q t) (list_all (vars_pass q) ts) (closed_pass q t (and_l (is_closed t) (list_all is_closed ts) h)) (closed_all q ts (and_r (is_closed t) (list_all is_closed ts) h))

-- ---- the bounds of declared parameters

pub params_have : (p : Ty → Bool) (ds : List Decl) → list_all (λ (d : Decl). list_all p (bound_types d.params)) ds ≡ true → (k : ℕ) → BoundsHave (Passes p) (params_of (slice_get ds k))
params_have p [] h k = tt
params_have p (d ∷ ds) h zero = pass_bounds p d.params (and_l (list_all p (bound_types d.params)) (list_all (λ (e : Decl). list_all p (bound_types e.params)) ds) h)
params_have p (d ∷ ds) h (suc k) = params_have p ds (and_r (list_all p (bound_types d.params)) (list_all (λ (e : Decl). list_all p (bound_types e.params)) ds) h) k

pub all_take : (p : Decl → Bool) (n : ℕ) (ds : List Decl) → list_all p ds ≡ true → list_all p (take n ds) ≡ true
all_take p zero ds h = refl
all_take p (suc n) [] h = refl
all_take p (suc n) (d ∷ ds) h = both_true (p d) (list_all p (take n ds)) (and_l (p d) (list_all p ds) h) (all_take p n ds (and_r (p d) (list_all p ds) h))

pub closed_params : (q : ℕ → Bool) (ds : List Decl) → list_all (λ (d : Decl). list_all is_closed (bound_types d.params)) ds ≡ true → list_all (λ (d : Decl). list_all (vars_pass q) (bound_types d.params)) ds ≡ true
closed_params q [] h = refl
closed_params q (d ∷ ds) h =
    both_true (list_all (vars_pass q) (bound_types d.params)) (list_all (λ (e : Decl). list_all (vars_pass q) (bound_types e.params)) ds)
    (closed_all q (bound_types d.params) (and_l (list_all is_closed (bound_types d.params)) (list_all (λ (e : Decl). list_all is_closed (bound_types e.params)) ds) h))
    (closed_params q ds (and_r (list_all is_closed (bound_types d.params)) (list_all (λ (e : Decl). list_all is_closed (bound_types e.params)) ds) h))

-- ---- the properties

pub lt_true : (k n : ℕ) → k < n → nat_lt k n ≡ true
lt_true k n h = grind arith

lt_within : (k n m : ℕ) → k < n → n ≤ m → nat_lt k m ≡ true
lt_within k n m h g = grind arith

known_union : (m : ℕ) (ts : List Ty) → AllHave (Passes (is_known m)) ts → is_known m (V.Union ts) ≡ true
known_union m ts h = known-union m ts ∙ all_pass (is_known m) ts h

known_nominal : (m k : ℕ) (ts : List Ty) → nat_lt k m ≡ true → AllHave (Passes (is_known m)) ts → is_known m (V.Nominal k ts) ≡ true
known_nominal m k ts l h = known-nominal m k ts ∙ both_true (nat_lt k m) (list_all (is_known m) ts) l (all_pass (is_known m) ts h)

-- each nominal type is one of those below m
pub known_carried : (ds : List Decl) (m : ℕ) → length ds ≤ m → 8 ≤ m → list_all (λ (d : Decl). list_all (is_known m) (bound_types d.params)) ds ≡ true
    → IsCarried ds (Passes (is_known m)) (λ v. Unit {0}) (λ v u. Unit {0}) (λ r. Unit {0})
known_carried ds m l b h = record {
  any = known-any m;
  union = known_union m;
  tuple = λ ts g. known-tuple m ts ∙ all_pass (is_known m) ts g;
  declared = λ k ts i g. known_nominal m k ts (lt_within k (length ds) m i l) g;
  int = λ ts g. known_nominal m 4 ts (lt_within 4 8 m (omega arith) b) g;
  variable = λ v g. known-var m v;
  params = params_have (is_known m) ds h;
  back = λ r s g e. tt;
  visible = λ at r v u s e. tt;
  bound = λ v e. tt;
}

note_use_passes : (q : ℕ → Bool) (at : ℕ) (r : Reading) (v : ℕ) (usable : Bool) → WhereUsable (λ n. q n ≡ true) v usable → (note_use at usable r).fault ≡ None → q v ≡ true
note_use_passes q at r v true h e = h refl
note_use_passes q at r v false h e = absurd (never_none r.fault (fault_at at kind.StaticParameterUse) e)

module _ (ds : List Decl) (q : ℕ → Bool) (h : list_all (λ (d : Decl). list_all (vars_pass q) (bound_types d.params)) ds ≡ true) where
  vars_union : (ts : List Ty) → AllHave (Passes (vars_pass q)) ts → vars_pass q (V.Union ts) ≡ true
  vars_union ts g = ap (list_all q) (vars-union ts) ∙ all_flat q ts ∙ all_pass (vars_pass q) ts g

  vars_tuple : (ts : List Ty) → AllHave (Passes (vars_pass q)) ts → vars_pass q (V.Tuple ts) ≡ true
  vars_tuple ts g = ap (list_all q) (vars-tuple ts) ∙ all_flat q ts ∙ all_pass (vars_pass q) ts g

  vars_nominal : (k : ℕ) (ts : List Ty) → AllHave (Passes (vars_pass q)) ts → vars_pass q (V.Nominal k ts) ≡ true
  vars_nominal k ts g = ap (list_all q) (vars-nominal k ts) ∙ all_flat q ts ∙ all_pass (vars_pass q) ts g

  vars_variable : (v : ℕ) → q v ≡ true → vars_pass q (W.Var v) ≡ true
  vars_variable v g = ap (list_all q) (vars-var v) ∙ both_true (q v) true g refl

  -- each variable passes a test that those pass which may stand here, where no fault stands
  pub vars_carried : IsCarried ds (Passes (vars_pass q)) (λ v. q v ≡ true) (WhereUsable (λ v. q v ≡ true)) (λ r. r.fault ≡ None)
  vars_carried = record {
    any = ap (list_all q) vars-any;
    union = vars_union;
    tuple = vars_tuple;
    declared = λ k ts i g. vars_nominal k ts g;
    int = vars_nominal 4;
    variable = vars_variable;
    params = params_have (vars_pass q) ds h;
    back = λ r s g e. g.faultless e;
    visible = note_use_passes q;
    bound = λ v e u. e;
  }

  -- each variable passes a test that all visible ones pass
  pub all_carried : IsCarried ds (Passes (vars_pass q)) (λ v. q v ≡ true) (λ v u. q v ≡ true) (λ r. Unit {0})
  all_carried = record {
    any = ap (list_all q) vars-any;
    union = vars_union;
    tuple = vars_tuple;
    declared = λ k ts i g. vars_nominal k ts g;
    int = vars_nominal 4;
    variable = vars_variable;
    params = params_have (vars_pass q) ds h;
    back = λ r s g e. tt;
    visible = λ at r v u s e. s;
    bound = λ v e. e;
  }

units : (bs : List Bound) → BoundsHave (λ t. Unit {0}) bs
units [] = tt
units (b ∷ bs) = ((tt, tt), units bs)

-- nothing is asked
pub nothing_carried : (ds : List Decl) → IsCarried ds (λ t. Unit {0}) (λ v. Unit {0}) (λ v u. Unit {0}) (λ r. Unit {0})
nothing_carried ds = record {
  any = tt;
  union = λ ts g. tt;
  tuple = λ ts g. tt;
  declared = λ k ts i g. tt;
  int = λ ts g. tt;
  variable = λ v g. tt;
  params = λ k. units (params_of (slice_get ds k));
  back = λ r s g e. tt;
  visible = λ at r v u s e. tt;
  bound = λ v e. tt;
}
