-- Types put in the bounds of a written type.
use Rattle.std.proofs.Common.{◌≡◌, ◌∙◌, sym, ap, ap₂, subst, refl, ℕ, ◌+◌, Bool, true, false, ◌&&◌, ◌||◌, not, nat_lt, List, [], ◌∷◌, map, ◌⊎◌, inl, inr}
use Rattle.std.specs.List.{flat_map, list_all}
use Rattle.jl_model.specs.declared.ty.Ty.{Ty, out-Ty}
use Rattle.jl_model.specs.declared.ty.Ty.TheViews.{outs-Union, outs-Nominal}
use Rattle.jl_model.specs.declared.ty.Ty.TheViews as V
use Rattle.jl_model.specs.declared.ty.Ty.TheVariants as W
use Rattle.jl_model.specs.declared.ty.Bound.{Bound}
use Rattle.jl_model.specs.Kinds.{places, plus}
use Rattle.jl_model.specs.Refusals.{bound_types}
use Rattle.jl_model.specs.Rows.{vars_in, bound_places}
use Rattle.jl_model.specs.SigRefusals.{is_argument, is_bottom, bottom_form, named_form, is_bound, are_bounds}
use Rattle.jl_model.specs.Subtype.{Table, opaque, put, Below}
use Rattle.jl_model.specs.Valid.{is_closed}
use Rattle.jl_model.proofs.BelowLemmas.{union_below}
use Rattle.jl_model.proofs.FormLemmas.{put-any, put-union, put-tuple, put-nominal, put-var, vars-union, vars-tuple, vars-nominal, vars-var}
use Rattle.jl_model.proofs.PutLemmas.{and_l, and_r, both_true, put-closed}
use Rattle.jl_model.proofs.TypeInduction.{Each, by_cases}
use Rattle.jl_sig.proofs.BoundLemmas.{IsNamed, low_closed, high_named, closed_vars, bottom_is, named_is}
use Rattle.jl_search.proofs.HasLemmas.{Has}
use Rattle.jl_match.proofs.NameLemmas.{all-append}
use Rattle.jl_calculus.specs.Statics.{put_bound}
use Rattle.jl_operations.proofs.PutLemmas.{each_all, IsLike, arguments_kept, same_places}

-- ---- each variable put in for itself

abbrev Itself : Ty → Type 0
Itself t = put (λ v. W.Var v) t ≡ t

itself_each : (ts : List Ty) → Each Itself ts → map (put (λ v. W.Var v)) ts ≡ ts
itself_each [] e = refl
itself_each (t ∷ ts) e = let p = e.0 in let q = itself_each ts e.1 in cc

pub put_itself : (t : Ty) → Itself t
put_itself = by_cases Itself (record {
  any = put-any (λ v. W.Var v);
  union = λ ts e. put-union (λ v. W.Var v) ts ∙ ap (λ us. V.Union us) (itself_each ts e);
  tuple = λ ts e. put-tuple (λ v. W.Var v) ts ∙ ap (λ us. V.Tuple us) (itself_each ts e);
  nominal = λ k ts e. put-nominal (λ v. W.Var v) k ts ∙ ap (λ us. V.Nominal k us) (itself_each ts e);
  var = λ v. put-var (λ v. W.Var v) v;
})

pub all_itself : (ts : List Ty) → map (put (λ v. W.Var v)) ts ≡ ts
all_itself ts = itself_each ts (each_all Itself put_itself ts)

-- ---- bounds as a list of types

pub types_put : (f : ℕ → Ty) (bs : List Bound) → bound_types (map (put_bound f) bs) ≡ map (put f) (bound_types bs)
types_put f [] = refl
types_put f (b ∷ bs) = ap (λ ts. put f b.low ∷ put f b.high ∷ ts) (types_put f bs)

-- bounds are told by their types
pub bounds_same : (f g : ℕ → Ty) (bs : List Bound) → map (put f) (bound_types bs) ≡ map (put g) (bound_types bs) → map (put_bound f) bs ≡ map (put_bound g) bs
bounds_same f g [] e = refl
bounds_same f g (b ∷ bs) e =
    let p : put f b.low ≡ put g b.low = cc in
    let q : put f b.high ≡ put g b.high = cc in
    let r : map (put f) (bound_types bs) ≡ map (put g) (bound_types bs) = cc in
    let first : put_bound f b ≡ put_bound g b = λ i. record { low = p i; high = q i } in
    ap₂ (λ (c : Bound) cs. c ∷ cs) first (bounds_same f g bs r)

pub bounds_itself : (bs : List Bound) → map (put_bound (λ v. W.Var v)) bs ≡ bs
bounds_itself [] = refl
bounds_itself (b ∷ bs) =
    let p = put_itself b.low in
    let q = put_itself b.high in
    let first : put_bound (λ v. W.Var v) b ≡ b = λ i. record { low = p i; high = q i } in
    ap₂ (λ (c : Bound) cs. c ∷ cs) first (bounds_itself bs)

-- bounds without variables stay
pub bounds_stay : (f : ℕ → Ty) (bs : List Bound) → list_all is_closed (bound_types bs) ≡ true → map (put_bound f) bs ≡ bs
bounds_stay f [] h = refl
bounds_stay f (b ∷ bs) h =
    let rest = and_r (is_closed b.low) (list_all is_closed (b.high ∷ bound_types bs)) h in
    let p = put-closed f b.low (closed_vars b.low (and_l (is_closed b.low) (list_all is_closed (b.high ∷ bound_types bs)) h)) in
    let q = put-closed f b.high (closed_vars b.high (and_l (is_closed b.high) (list_all is_closed (bound_types bs)) rest)) in
    let first : put_bound f b ≡ b = λ i. record { low = p i; high = q i } in
    ap₂ (λ (c : Bound) cs. c ∷ cs) first (bounds_stay f bs (and_r (is_closed b.high) (list_all is_closed (bound_types bs)) rest))

-- ---- places of variables

pub places_stay : (v : ℕ) (f : ℕ → Ty) → ((w : ℕ) → places v (f w) ≡ places v (W.Var w)) → (bs : List Bound) → bound_places v (map (put_bound f) bs) ≡ bound_places v bs
places_stay v f like [] = refl
places_stay v f like (b ∷ bs) =
    ap₂ plus (ap₂ plus (same_places v f like b.low) (same_places v f like b.high)) (places_stay v f like bs)

-- ---- where p holds of the variables of a type, and of those in what is put for each, it holds of those in the type with these put in

module _ (f : ℕ → Ty) (p : ℕ → Bool) (keeps : (v : ℕ) → p v ≡ true → list_all p (vars_in (f v)) ≡ true) where
  abbrev Keep : Ty → Type 0
  Keep t = list_all p (vars_in t) ≡ true → list_all p (vars_in (put f t)) ≡ true

  keep_each : (ts : List Ty) → Each Keep ts → list_all p (flat_map vars_in ts) ≡ true → list_all p (flat_map vars_in (map (put f) ts)) ≡ true
  keep_each [] e h = refl
  keep_each (t ∷ ts) e h =
      let k : (list_all p (vars_in t) && list_all p (flat_map vars_in ts)) ≡ true = sym (all-append p (vars_in t) (flat_map vars_in ts)) ∙ h in
      all-append p (vars_in (put f t)) (flat_map vars_in (map (put f) ts))
      ∙ both_true (list_all p (vars_in (put f t))) (list_all p (flat_map vars_in (map (put f) ts))) (e.0 (and_l (list_all p (vars_in t)) (list_all p (flat_map vars_in ts)) k))
      (keep_each ts e.1 (and_r (list_all p (vars_in t)) (list_all p (flat_map vars_in ts)) k))

  vars_kept : (t : Ty) → Keep t
  vars_kept = by_cases Keep (record {
    any = λ h. ap (λ t. list_all p (vars_in t)) (put-any f) ∙ h;
    union = λ ts e h. ap (λ t. list_all p (vars_in t)) (put-union f ts) ∙ ap (list_all p) (vars-union (map (put f) ts)) ∙ keep_each ts e (sym (ap (list_all p) (vars-union ts)) ∙ h);
    tuple = λ ts e h. ap (λ t. list_all p (vars_in t)) (put-tuple f ts) ∙ ap (list_all p) (vars-tuple (map (put f) ts)) ∙ keep_each ts e (sym (ap (list_all p) (vars-tuple ts)) ∙ h);
    nominal = λ k ts e h. ap (λ t. list_all p (vars_in t)) (put-nominal f k ts) ∙ ap (list_all p) (vars-nominal k (map (put f) ts)) ∙ keep_each ts e (sym (ap (list_all p) (vars-nominal k ts)) ∙ h);
    var = λ v h. ap (λ t. list_all p (vars_in t)) (put-var f v) ∙ keeps v (and_l (p v) true (sym (ap (list_all p) (vars-var v)) ∙ h));
  })

-- ---- a bound stands where it may

is_true_or : (b : Bool) → (b ≡ true) ⊎ (b ≡ false)
is_true_or true = inl refl
is_true_or false = inr refl

right_true : (a b : Bool) → b ≡ true → (a || b) ≡ true
right_true true b h = refl
right_true false b h = h

pub below_all : (n : Table) (t u : Ty) → is_bottom t ≡ true → Below n opaque t u
below_all n t u h = let e = bottom_is t h in rw e (union_below n [] u tt)

-- of m variables, these types are put in for the others: each has no variables, or is the variable
module _ (m : ℕ) (f : ℕ → Ty) (may : (v : ℕ) → is_argument (f v) ≡ true) (own : (v w : ℕ) → (nat_lt w v || not (nat_lt w m)) ≡ true → list_all (λ w. nat_lt w v || not (nat_lt w m)) (vars_in (f w)) ≡ true)
    (like : (v : ℕ) → IsLike (W.Var v) (f v)) where
  abbrev is_before : ℕ → ℕ → Bool
  is_before v w = nat_lt w v || not (nat_lt w m)

  stays_closed : (t : Ty) → is_closed t ≡ true → is_closed (put f t) ≡ true
  stays_closed t h = ap is_closed (put-closed f t (closed_vars t h)) ∙ h

  abbrev named : ℕ → Bound → Bool
  named v b = is_bottom b.low && named_form (out-Ty b.high) && list_all (is_before v) (vars_in b.high)

  named_put : (v : ℕ) (b : Bound) → IsNamed m v b → named v (put_bound f b) ≡ true
  named_put v b h =
      let bottom = is_bottom (put f b.low) in
      let form = named_form (out-Ty (put f b.high)) in
      let t = named_is b.high h.named in
      let low : bottom ≡ true = ap is_bottom (ap (put f) (bottom_is b.low h.bottom) ∙ put-union f []) ∙ ap bottom_form (outs-Union []) in
      let high : form ≡ true =
      ap (λ u. named_form (out-Ty u)) (ap (put f) t.2 ∙ put-nominal f t.0 t.1) ∙ ap named_form (outs-Nominal t.0 (map (put f) t.1))
      ∙ arguments_kept (λ v. W.Var v) f like t.1 (ap (list_all is_argument) (all_itself t.1) ∙ t.3) in
      both_true (bottom && form) (list_all (is_before v) (vars_in (put f b.high))) (both_true bottom form low high) (vars_kept f (is_before v) (own v) b.high h.before)

  bound_put : (v : ℕ) (b : Bound) → is_bound m v b ≡ true → is_bound m v (put_bound f b) ≡ true
  bound_put v b h =
      both_true (is_closed (put f b.low)) (is_closed (put f b.high) || named v (put_bound f b)) (stays_closed b.low (low_closed m v b h))
      (elim (is_true_or (is_closed b.high)) [
        | inl c ↦ ap (λ x. x || named v (put_bound f b)) (stays_closed b.high c)
        | inr c ↦ right_true (is_closed (put f b.high)) (named v (put_bound f b)) (named_put v b (high_named m v b h c))
      ])

  pub bounds_put : (v : ℕ) (bs : List Bound) → are_bounds m v bs ≡ true → are_bounds m v (map (put_bound f) bs) ≡ true
  bounds_put v [] h = refl
  bounds_put v (b ∷ bs) h =
      both_true (is_bound m v (put_bound f b)) (are_bounds m (v + 1) (map (put_bound f) bs)) (bound_put v b (and_l (is_bound m v b) (are_bounds m (v + 1) bs) h))
      (bounds_put (v + 1) bs (and_r (is_bound m v b) (are_bounds m (v + 1) bs) h))

  -- where a bound is in order it is so with these put in
  pub order_put : (n : Table) (v : ℕ) (bs : List Bound) → are_bounds m v bs ≡ true → (b : Bound) → Has bs b → Below n opaque b.low b.high → Below n opaque (put f b.low) (put f b.high)
  order_put n v [] h b i k = absurd i
  order_put n v (c ∷ bs) h b (inl e) k =
      subst (λ (z : Bound). Below n opaque (put f z.low) (put f z.high)) e (one (subst (λ (z : Bound). Below n opaque z.low z.high) (sym e) k))
    where
      placed : is_bound m v c ≡ true
      placed = and_l (is_bound m v c) (are_bounds m (v + 1) bs) h

      one : Below n opaque c.low c.high → Below n opaque (put f c.low) (put f c.high)
      one k = elim (is_true_or (is_closed c.high)) [
        | inl d ↦
            let p = put-closed f c.low (closed_vars c.low (low_closed m v c placed)) in
            let q = put-closed f c.high (closed_vars c.high d) in
            rw (p, q) k
        | inr d ↦
            let low : is_bottom (put f c.low) ≡ true = ap is_bottom (ap (put f) (bottom_is c.low (high_named m v c placed d).bottom) ∙ put-union f []) ∙ ap bottom_form (outs-Union []) in
            below_all n (put f c.low) (put f c.high) low
      ]
  order_put n v (c ∷ bs) h b (inr i) k = order_put n (v + 1) bs (and_r (is_bound m v c) (are_bounds m (v + 1) bs) h) b i k
