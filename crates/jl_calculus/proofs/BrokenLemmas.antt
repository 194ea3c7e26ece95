-- A signature has an argument outside its declared bounds exactly where one of its nominal types is broken.
use Rattle.std.proofs.Common.{◌≡◌, ◌∙◌, refl, sym, ap, subst, ℕ, zero, suc, ◌+◌, arith, ◌⊎◌, inl, inr, List, [], ◌∷◌, ◌++◌, get_or, slice_get}
use Rattle.std.specs.List.{Contains, flat_map}
use Rattle.std.proofs.lemmas.List.Elements.{Contains-append_left, Contains-append_right, Contains-append_cases}
use Rattle.jl_model.specs.declared.ty.Ty.{Ty, out-Ty}
use Rattle.jl_model.specs.declared.ty.Ty.TheOpen.{Ty-F, Any, Union, Tuple, Nominal, Var}
use Rattle.jl_model.specs.declared.ty.Ty.TheVariants as W
use Rattle.jl_model.specs.declared.ty.Ty.TheViews as T
use Rattle.jl_model.specs.declared.ty.Ty.TheViews.{rolls-Any, rolls-Union, rolls-Tuple, rolls-Nominal, rolls-Var, outs-Nominal}
use Rattle.jl_model.specs.declared.ty.Ty.TheFolds.{para-roll-Ty}
use Rattle.jl_model.specs.declared.ty.Decl.{Decl}
use Rattle.jl_model.specs.declared.ty.Written.{Written}
use Rattle.jl_model.specs.Ancestors.{table_of}
use Rattle.jl_model.specs.Refusals.{bound_types, Given, given_from, given_in, given_step, Between}
use Rattle.jl_model.specs.Rows.{free}
use Rattle.jl_model.specs.SigRefusals.{BoundBroken}
use Rattle.jl_model.specs.Valid.{params_of}
use Rattle.jl_model.proofs.FormLemmas.{firsts, flat_seconds, is_nominal}
use Rattle.jl_model.proofs.TypeInduction.{Each, by_cases}
use Rattle.jl_calculus.specs.Laws.{HasBroken}
use Rattle.jl_calculus.specs.Statics.{nominals_in, nominals_step, nominals_of, Breaks}

-- ---- members of joined lists

pub no_member : {X : Type 0} (y : X) → Contains [] y → ⊥
no_member y (k, l, e) = absurd (omega (arith, l))

pub flat_from : {X Y : Type 0} (f : X → List Y) (xs : List X) (y : Y) → Contains (flat_map f xs) y → (x : X) × Contains xs x × Contains (f x) y
flat_from f [] y c = absurd (no_member y c)
flat_from f (x ∷ xs) y c = by (λ d. flat_from f xs y d) (Contains-append_cases (f x) (flat_map f xs) y c)
  where
    by : (Contains (flat_map f xs) y → (z : _) × Contains xs z × Contains (f z) y) → Contains (f x) y ⊎ Contains (flat_map f xs) y → (z : _) × Contains (x ∷ xs) z × Contains (f z) y
    by more (inl d) = (x, (0, omega arith, refl), d)
    by more (inr d) = let r = more d in (r.0, (suc r.1.0, omega (arith, r.1.1), r.1.2), r.2)

flat_to : {X Y : Type 0} (f : X → List Y) (xs : List X) (x : X) (y : Y) → Contains xs x → Contains (f x) y → Contains (flat_map f xs) y
flat_to f [] x y c d = absurd (no_member x c)
flat_to f (z ∷ xs) x y (zero, l, e) d = Contains-append_left (f z) (flat_map f xs) y (subst (λ w. Contains (f w) y) (sym e) d)
flat_to f (z ∷ xs) x y (suc k, l, e) d = Contains-append_right (f z) (flat_map f xs) y (flat_to f xs x y (k, omega (arith, l), e) d)

each_at : (P : Ty → Type 0) (ts : List Ty) (t : Ty) → Each P ts → Contains ts t → P t
each_at P [] t h c = absurd (no_member t c)
each_at P (u ∷ ts) t h (zero, l, e) = subst P e h.0
each_at P (u ∷ ts) t h (suc k, l, e) = each_at P ts t h.1 (k, omega (arith, l), e)

of_from : (k i : ℕ) (ts : List Ty) (a : Given) → Contains (given_from k i ts) a → k ≡ a.of
of_from k i [] a c = absurd (no_member a c)
of_from k i (t ∷ ts) a (zero, l, e) = ap (λ (g : Given). g.of) e
of_from k i (t ∷ ts) a (suc j, l, e) = of_from k (i + 1) ts a (j, omega (arith, l), e)

-- ---- what stands in a type of each form

given-union : (ts : List Ty) → given_in (T.Union ts) ≡ flat_map given_in ts
given-union ts = ap given_in (sym (rolls-Union ts)) ∙ para-roll-Ty (List Given) given_step (Union ts) ∙ flat_seconds given_in ts

given-tuple : (ts : List Ty) → given_in (T.Tuple ts) ≡ flat_map given_in ts
given-tuple ts = ap given_in (sym (rolls-Tuple ts)) ∙ para-roll-Ty (List Given) given_step (Tuple ts) ∙ flat_seconds given_in ts

given-nominal : (k : ℕ) (ts : List Ty) → given_in (T.Nominal k ts) ≡ given_from k 0 ts ++ flat_map given_in ts
given-nominal k ts =
    ap given_in (sym (rolls-Nominal k ts)) ∙ para-roll-Ty (List Given) given_step (Nominal k ts) ∙ (λ i. given_from k 0 (firsts given_in ts i) ++ flat_seconds given_in ts i)

given-any : given_in W.Any ≡ []
given-any = ap given_in (sym rolls-Any) ∙ para-roll-Ty (List Given) given_step Any

given-var : (v : ℕ) → given_in (W.Var v) ≡ []
given-var v = ap given_in (sym (rolls-Var v)) ∙ para-roll-Ty (List Given) given_step (Var v)

pub nominals-union : (ts : List Ty) → nominals_in (T.Union ts) ≡ flat_map nominals_in ts
nominals-union ts = ap nominals_in (sym (rolls-Union ts)) ∙ para-roll-Ty (List Ty) nominals_step (Union ts) ∙ flat_seconds nominals_in ts

pub nominals-tuple : (ts : List Ty) → nominals_in (T.Tuple ts) ≡ flat_map nominals_in ts
nominals-tuple ts = ap nominals_in (sym (rolls-Tuple ts)) ∙ para-roll-Ty (List Ty) nominals_step (Tuple ts) ∙ flat_seconds nominals_in ts

pub nominals-nominal : (k : ℕ) (ts : List Ty) → nominals_in (T.Nominal k ts) ≡ flat_map nominals_in ts ++ T.Nominal k ts ∷ []
nominals-nominal k ts =
    ap nominals_in (sym (rolls-Nominal k ts)) ∙ para-roll-Ty (List Ty) nominals_step (Nominal k ts)
    ∙ (λ i. flat_seconds nominals_in ts i ++ T.Nominal k (firsts nominals_in ts i) ∷ [])

pub nominals-any : nominals_in W.Any ≡ []
nominals-any = ap nominals_in (sym rolls-Any) ∙ para-roll-Ty (List Ty) nominals_step Any

pub nominals-var : (v : ℕ) → nominals_in (W.Var v) ≡ []
nominals-var v = ap nominals_in (sym (rolls-Var v)) ∙ para-roll-Ty (List Ty) nominals_step (Var v)

-- ---- each argument is one of a nominal type that stands there

abbrev Holder : List Ty → Given → Type 0
Holder us a = (xs : List Ty) × Contains us (T.Nominal a.of xs) × Contains (given_from a.of 0 xs) a

abbrev Held : Ty → Type 0
Held t = (a : Given) → Contains (given_in t) a → Holder (nominals_in t) a

parts_held : (ts : List Ty) → Each Held ts → (a : Given) → Contains (flat_map given_in ts) a → Holder (flat_map nominals_in ts) a
parts_held ts h a c =
    let r = flat_from given_in ts a c in
    let k = each_at Held ts r.0 h r.1 a r.2 in
    (k.0, flat_to nominals_in ts r.0 (T.Nominal a.of k.0) r.1 k.1, k.2)

nominal_held : (k : ℕ) (ts : List Ty) → Each Held ts → (a : Given) → Contains (given_from k 0 ts) a ⊎ Contains (flat_map given_in ts) a → Holder (flat_map nominals_in ts ++ T.Nominal k ts ∷ []) a
nominal_held k ts h a (inl d) =
    let e : k ≡ a.of = of_from k 0 ts a d in
    let own : Contains (flat_map nominals_in ts ++ T.Nominal k ts ∷ []) (T.Nominal k ts) = Contains-append_right (flat_map nominals_in ts) (T.Nominal k ts ∷ []) (T.Nominal k ts) (0, omega arith, refl) in
    (ts, subst (λ (j : ℕ). Contains (flat_map nominals_in ts ++ T.Nominal k ts ∷ []) (T.Nominal j ts)) e own, subst (λ (j : ℕ). Contains (given_from j 0 ts) a) e d)
nominal_held k ts h a (inr d) =
    let r = parts_held ts h a d in
    (r.0, Contains-append_left (flat_map nominals_in ts) (T.Nominal k ts ∷ []) (T.Nominal a.of r.0) r.1, r.2)

held : (t : Ty) → Held t
held = by_cases Held (record {
  any = λ a c. absurd (no_member a (subst (λ gs. Contains gs a) given-any c));
  union = λ ts h a c. subst (λ us. Holder us a) (sym (nominals-union ts)) (parts_held ts h a (subst (λ gs. Contains gs a) (given-union ts) c));
  tuple = λ ts h a c. subst (λ us. Holder us a) (sym (nominals-tuple ts)) (parts_held ts h a (subst (λ gs. Contains gs a) (given-tuple ts) c));
  nominal = λ k ts h a c. subst (λ us. Holder us a) (sym (nominals-nominal k ts))
      (nominal_held k ts h a (Contains-append_cases (given_from k 0 ts) (flat_map given_in ts) a (subst (λ gs. Contains gs a) (given-nominal k ts) c)));
  var = λ v a c. absurd (no_member a (subst (λ gs. Contains gs a) (given-var v) c));
})

-- ---- and each argument of a nominal type that stands there is one

abbrev Gives : Ty → Type 0
Gives t = (k : ℕ) (xs : List Ty) → Contains (nominals_in t) (T.Nominal k xs) → (a : Given) → Contains (given_from k 0 xs) a → Contains (given_in t) a

parts_give : (ts : List Ty) → Each Gives ts → (k : ℕ) (xs : List Ty) → Contains (flat_map nominals_in ts) (T.Nominal k xs) → (a : Given) → Contains (given_from k 0 xs) a → Contains (flat_map given_in ts) a
parts_give ts h k xs c a d =
    let r = flat_from nominals_in ts (T.Nominal k xs) c in
    flat_to given_in ts r.0 a r.1 (each_at Gives ts r.0 h r.1 k xs r.2 a d)

nominal_gives : (j : ℕ) (ts : List Ty) → Each Gives ts → (k : ℕ) (xs : List Ty) → Contains (flat_map nominals_in ts) (T.Nominal k xs) ⊎ Contains (T.Nominal j ts ∷ []) (T.Nominal k xs)
    → (a : Given) → Contains (given_from k 0 xs) a → Contains (given_from j 0 ts ++ flat_map given_in ts) a
nominal_gives j ts h k xs (inl c) a d = Contains-append_right (given_from j 0 ts) (flat_map given_in ts) a (parts_give ts h k xs c a d)
nominal_gives j ts h k xs (inr (zero, l, e)) a d =
    let z : Nominal j ts ≡ Nominal k xs = sym (outs-Nominal j ts) ∙ ap out-Ty e ∙ outs-Nominal k xs in
    let kk : k ≡ j = cc in
    let tt_ : xs ≡ ts = cc in
    Contains-append_left (given_from j 0 ts) (flat_map given_in ts) a (subst (λ (us : List Ty). Contains (given_from j 0 us) a) tt_ (subst (λ (m : ℕ). Contains (given_from m 0 xs) a) kk d))
nominal_gives j ts h k xs (inr (suc i, l, e)) a d = absurd (omega (arith, l))

gives : (t : Ty) → Gives t
gives = by_cases Gives (record {
  any = λ k xs c a d. absurd (no_member (T.Nominal k xs) (subst (λ us. Contains us (T.Nominal k xs)) nominals-any c));
  union = λ ts h k xs c a d. subst (λ gs. Contains gs a) (sym (given-union ts)) (parts_give ts h k xs (subst (λ us. Contains us (T.Nominal k xs)) (nominals-union ts) c) a d);
  tuple = λ ts h k xs c a d. subst (λ gs. Contains gs a) (sym (given-tuple ts)) (parts_give ts h k xs (subst (λ us. Contains us (T.Nominal k xs)) (nominals-tuple ts) c) a d);
  nominal = λ j ts h k xs c a d. subst (λ gs. Contains gs a) (sym (given-nominal j ts))
      (nominal_gives j ts h k xs (Contains-append_cases (flat_map nominals_in ts) (T.Nominal j ts ∷ []) (T.Nominal k xs) (subst (λ us. Contains us (T.Nominal k xs)) (nominals-nominal j ts) c)) a d);
  var = λ v k xs c a d. absurd (no_member (T.Nominal k xs) (subst (λ us. Contains us (T.Nominal k xs)) (nominals-var v) c));
})

-- ---- signatures

-- the types of a signature in either order
turned : (xs ys : List Ty) (t : Ty) → Contains (xs ++ ys) t → Contains (ys ++ xs) t
turned xs ys t c = by (Contains-append_cases xs ys t c)
  where
    by : Contains xs t ⊎ Contains ys t → Contains (ys ++ xs) t
    by (inl d) = Contains-append_right ys xs t d
    by (inr d) = Contains-append_left ys xs t d

module _ (ds : List Decl) (s : Written) where
  pub one_broken : BoundBroken ds s → HasBroken ds (nominals_of s)
  one_broken (a, c, shut, out) =
      let r = flat_from given_in (bound_types s.vars ++ s.parts) a c in
      let k = held r.0 a r.2 in
      let there = flat_to nominals_in (s.parts ++ bound_types s.vars) r.0 (T.Nominal a.of k.0) (turned (bound_types s.vars) s.parts r.0 r.1) k.1 in
      (T.Nominal a.of k.0, there, subst (Breaks ds) (sym (outs-Nominal a.of k.0)) (a, k.2, shut, out))

  broken_layer : (u : Ty) (x : Ty-F Ty) → out-Ty u ≡ x → Contains (nominals_of s) u → Breaks ds x → BoundBroken ds s
  broken_layer u (Nominal k xs) o c (a, d, shut, out) =
      let is : u ≡ T.Nominal k xs = is_nominal u k xs o in
      let r = flat_from nominals_in (s.parts ++ bound_types s.vars) (T.Nominal k xs) (subst (λ z. Contains (nominals_of s) z) is c) in
      let e : k ≡ a.of = of_from k 0 xs a d in
      let there = flat_to given_in (bound_types s.vars ++ s.parts) r.0 a (turned s.parts (bound_types s.vars) r.0 r.1) (gives r.0 k xs r.2 a d) in
      (a, there, shut, subst (λ (j : ℕ). Between (table_of ds) (get_or (params_of (slice_get ds j)) a.place free) a.ty → ⊥) e out)
  broken_layer u Any o c b = absurd b
  broken_layer u (Union ts) o c b = absurd b
  broken_layer u (Tuple ts) o c b = absurd b
  broken_layer u (Var v) o c b = absurd b

  pub broken_once : HasBroken ds (nominals_of s) → BoundBroken ds s
  broken_once (u, c, b) = broken_layer u (out-Ty u) refl c b
