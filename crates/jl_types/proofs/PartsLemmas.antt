-- The tests that go by the parts: known, without variables, and with the declared numbers of arguments.
use Rattle.std.proofs.Common.{◌≡◌, ◌∙◌, sym, ap, refl, ℕ, Bool, true, false, ◌&&◌, arith, nat_eq, nat_lt, List, [], ◌∷◌, ◌++◌, map, length, slice_get, get_or, drop, ◌+◌, ◌<◌}
use Rattle.std.proofs.lemmas.List.{length-map}
use Rattle.std.specs.List.{flat_map, list_all}
use Rattle.jl_model.specs.declared.ty.Ty.{Ty}
use Rattle.jl_model.specs.declared.ty.Ty.TheOpen.{Union, Tuple, Nominal}
use Rattle.jl_model.specs.declared.ty.Ty.TheViews.{rolls-Union, rolls-Tuple, rolls-Nominal}
use Rattle.jl_model.specs.declared.ty.Ty.TheViews as V
use Rattle.jl_model.specs.declared.ty.Ty.TheVariants as W
use Rattle.jl_model.specs.declared.ty.Ty.TheFolds.{fold-roll-Ty}
use Rattle.jl_model.specs.declared.ty.Decl.{Decl}
use Rattle.jl_model.specs.Rows.{vars_in}
use Rattle.jl_model.specs.Valid.{is_known, is_closed, is_counted, counted_step, params_of}
use Rattle.jl_model.proofs.FormLemmas.{vars-any, vars-var, vars-union, vars-tuple, vars-nominal, all_of}
use Rattle.jl_model.proofs.PutLemmas.{and_l, and_r, both_true}
use Rattle.jl_model.proofs.AncestorLemmas.{each_true, true_each}
use Rattle.jl_model.proofs.KnownLemmas.{known-union, known-tuple, known-any, known-var, known-nominal, nominal_known, known_nominal}
use Rattle.jl_types.proofs.ReduceLemmas.{drop_is}
use Rattle.jl_types.specs.Form.{IsOfParts}

-- KNOWN
pub known_parts : (m : ℕ) → IsOfParts (is_known m)
known_parts m = record {
  union_is = known-union m;
  tuple_is = known-tuple m;
  arguments = λ k ts h. each_true (is_known m) ts (nominal_known m k ts h).1;
  others = λ k ts us h l f. known_nominal m k us (and_l (nat_lt k m) (list_all (is_known m) ts) (sym (known-nominal m k ts) ∙ h)) (true_each (is_known m) us f);
}

-- CLOSED
none_append : (xs ys : List ℕ) → nat_eq (length (xs ++ ys)) 0 ≡ (nat_eq (length xs) 0 && nat_eq (length ys) 0)
none_append [] ys = refl
none_append (x ∷ xs) ys =
    let a : nat_eq (length (x ∷ xs)) 0 ≡ false = grind arith in
    let b : nat_eq (length (x ∷ xs ++ ys)) 0 ≡ false = grind arith in
    b ∙ sym (ap (λ z. z && nat_eq (length ys) 0) a)

closed_flat : (ts : List Ty) → nat_eq (length (flat_map vars_in ts)) 0 ≡ list_all is_closed ts
closed_flat [] = refl
closed_flat (t ∷ ts) = none_append (vars_in t) (flat_map vars_in ts) ∙ ap (λ b. is_closed t && b) (closed_flat ts)

abbrev is_none : List ℕ → Bool
is_none ks = nat_eq (length ks) 0

pub closed-nominal : (k : ℕ) (ts : List Ty) → is_closed (V.Nominal k ts) ≡ list_all is_closed ts
closed-nominal k ts = ap is_none (vars-nominal k ts) ∙ closed_flat ts

pub closed_parts : IsOfParts is_closed
closed_parts = record {
  union_is = λ ts. ap is_none (vars-union ts) ∙ closed_flat ts;
  tuple_is = λ ts. ap is_none (vars-tuple ts) ∙ closed_flat ts;
  arguments = λ k ts h. sym (closed-nominal k ts) ∙ h;
  others = λ k ts us h l f. closed-nominal k us ∙ f;
}

pub closed-any : is_closed W.Any ≡ true
closed-any = ap is_none vars-any

pub closed-var : (v : ℕ) → is_closed (W.Var v) ≡ false
closed-var v = ap is_none (vars-var v)

-- for the code that tells whether a type has variables
pub closed-step : (ts : List Ty) (i : ℕ) (t : Ty) → i < length ts → t ≡ get_or ts i t → list_all is_closed (drop i ts) ≡ (is_closed t && list_all is_closed (drop (i + 1) ts))
closed-step ts i t l e = ap (list_all is_closed) (drop_is ts i t l e)

pub closed-union : (ts : List Ty) → is_closed (V.Union ts) ≡ list_all is_closed ts
closed-union ts = closed_parts.union_is ts

pub closed-tuple : (ts : List Ty) → is_closed (V.Tuple ts) ≡ list_all is_closed ts
closed-tuple ts = closed_parts.tuple_is ts

pub ruleset closing = (closed-step, closed-any, closed-var, closed-union, closed-tuple, closed-nominal)

-- COUNTED
module _ (ds : List Decl) where
  counted-union : (ts : List Ty) → is_counted ds (V.Union ts) ≡ list_all (is_counted ds) ts
  counted-union ts = ap (is_counted ds) (sym (rolls-Union ts)) ∙ fold-roll-Ty Bool (counted_step ds) (Union ts) ∙ all_of (is_counted ds) ts

  counted-tuple : (ts : List Ty) → is_counted ds (V.Tuple ts) ≡ list_all (is_counted ds) ts
  counted-tuple ts = ap (is_counted ds) (sym (rolls-Tuple ts)) ∙ fold-roll-Ty Bool (counted_step ds) (Tuple ts) ∙ all_of (is_counted ds) ts

  abbrev is_wide : ℕ → List Ty → Bool
  is_wide k ts = nat_eq (length (map (is_counted ds) ts)) (length (params_of (slice_get ds k)))

  counted-nominal : (k : ℕ) (ts : List Ty) → is_counted ds (V.Nominal k ts) ≡ (is_wide k ts && list_all (is_counted ds) ts)
  counted-nominal k ts = ap (is_counted ds) (sym (rolls-Nominal k ts)) ∙ fold-roll-Ty Bool (counted_step ds) (Nominal k ts) ∙ ap (λ b. is_wide k ts && b) (all_of (is_counted ds) ts)

  pub counted_parts : IsOfParts (is_counted ds)
  counted_parts = record {
    union_is = counted-union;
    tuple_is = counted-tuple;
    arguments = λ k ts h. and_r (is_wide k ts) (list_all (is_counted ds) ts) (sym (counted-nominal k ts) ∙ h);
    others = λ k ts us h l f.
        let w : is_wide k ts ≡ true = and_l (is_wide k ts) (list_all (is_counted ds) ts) (sym (counted-nominal k ts) ∙ h) in
        let e : length (map (is_counted ds) us) ≡ length (map (is_counted ds) ts) = length-map us (is_counted ds) ∙ l ∙ sym (length-map ts (is_counted ds)) in
        counted-nominal k us ∙ both_true (is_wide k us) (list_all (is_counted ds) us) (ap (λ z. nat_eq z (length (params_of (slice_get ds k)))) e ∙ w) f;
  }

-- for the code that tells whether a type is known
pub known-step : (m : ℕ) (ts : List Ty) (i : ℕ) (t : Ty) → i < length ts → t ≡ get_or ts i t → list_all (is_known m) (drop i ts) ≡ (is_known m t && list_all (is_known m) (drop (i + 1) ts))
known-step m ts i t l e = ap (list_all (is_known m)) (drop_is ts i t l e)

pub ruleset knowing = (known-step, known-any, known-var, known-union, known-tuple, known-nominal)
