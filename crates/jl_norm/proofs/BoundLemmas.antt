-- Where the arguments of a declaration keep the declared bounds, so do those of what is kept of it.
use Rattle.std.proofs.Common.{◌≡◌, ◌∙◌, sym, ap, subst, refl, ℕ, zero, suc, ◌+◌, ◌<◌, arith, Bool, true, false, ◌&&◌, List, [], ◌∷◌, ◌++◌, length, get_or, slice_get, ◌⊎◌, inl, inr}
use Rattle.std.specs.List.{flat_map, list_all}
use Rattle.jl_model.specs.declared.ty.Ty.{Ty}
use Rattle.jl_model.specs.declared.ty.Ty.TheViews.{outs-Any, outs-Union, outs-Tuple, outs-Nominal, outs-Var}
use Rattle.jl_model.specs.declared.ty.Ty.TheViews as V
use Rattle.jl_model.specs.declared.ty.Ty.TheVariants as W
use Rattle.jl_model.specs.declared.ty.Bound.{Bound}
use Rattle.jl_model.specs.declared.ty.Decl.{Decl}
use Rattle.jl_model.specs.Rows.{free}
use Rattle.jl_model.specs.Signature.{Both, both_end, both_more}
use Rattle.jl_model.specs.Subtype.{Table, opaque, at, Below}
use Rattle.jl_model.specs.Normal.{IsNormal, AllNormal, var as normal_var, nominal as normal_nominal, none, more}
use Rattle.jl_model.specs.Valid.{is_known, is_closed, params_of}
use Rattle.jl_model.specs.Kept.{field_types, Argument, AllArguments, closed, variable, nominal as applied, arguments_end, arguments_more, Bounds, bounds_end, bounds_more, IsKept}
use Rattle.jl_model.specs.Refusals.{Declared, table_with, bound_types, types_of, Given, given_from, given_in, Between, BoundBroken, is_free_of, is_placed, is_placed_field}
use Rattle.jl_model.proofs.TypeInduction.{Each, by_cases}
use Rattle.jl_model.proofs.FormLemmas.{is_any, is_union, is_tuple, is_nominal, is_var}
use Rattle.jl_model.proofs.AncestorLemmas.{Lawful, slice_before, slice_last, slice_past, long-snoc, true_each}
use Rattle.jl_model.proofs.SelfLemmas.{equal_self}
use Rattle.jl_model.proofs.HeightLemmas.{Ways}
use Rattle.jl_model.proofs.TransLemmas.{below_trans, equal_trans}
use Rattle.jl_model.proofs.KnownLemmas.{Known, union_known, tuple_known, nominal_known}
use Rattle.jl_norm.specs.Refused.{IsWellWritten}
use Rattle.jl_norm.proofs.InheritLemmas.{Has, AllHave, has_any, has_var, has_union, has_tuple, has_nominal, have_none, have_more, inherits}
use Rattle.jl_norm.proofs.PlaceLemmas.{free-union, free-tuple, placed-union, placed-tuple, placed-nominal, field-union, field-tuple, field-nominal}
use Rattle.jl_types.proofs.PartsLemmas.{closed-union, closed-tuple, closed-nominal}
use Rattle.jl_norm.proofs.PartLemmas.{AnyVar, AnyName, NoVar, free_known}
use Rattle.jl_types.proofs.GivenLemmas.{AllGiven, given-any, given-var, given-union, given-tuple, given-nominal, given_left, given_right, given_both, given_none, given_each, each_given, given_at, at_given}
use Rattle.jl_norm.proofs.KeepLemmas.{with_lawful, bounds_are_closed, parent_is_known, fields_are_placed}
use Rattle.jl_norm.proofs.KeptLemmas.{own_known, parent_known_next, parent_is_field, argument_exists}
use Rattle.jl_norm.proofs.NextLemmas.{closed_has, has_closed}
use Rattle.jl_norm.proofs.AgainLemmas.{settled_has, all_settled_have, bounds_have, bounds_long, order_there, argument_equal}

-- the bounds of a place
abbrev pub bound_of : List Decl → ℕ → ℕ → Bound
bound_of ds k i = get_or (params_of (slice_get ds k)) i free

between_equal : (n : Table) → Lawful n → (b : Bound) (t c : Ty) → Below n opaque c t → Below n opaque t c → Between n b t → Between n b c
between_equal n law b t c p q h = (below_trans n law b.low t c h.0 q, below_trans n law c t b.high p h.1)

true_or : (b : Bool) → (b ≡ true) ⊎ (b ≡ false)
true_or true = inl refl
true_or false = inr refl

and_false : (b c : Bool) → c ≡ false → (b && c) ≡ false
and_false true c e = e
and_false false c e = refl

-- WHAT IS OPEN STAYS OPEN
open_split : (t u : Ty) (vs ws : List Ty) (b : Bool) → is_closed t ≡ b → list_all is_closed (t ∷ vs) ≡ false → (list_all is_closed vs ≡ false → list_all is_closed ws ≡ false)
    → (is_closed t ≡ false → is_closed u ≡ false) → list_all is_closed (u ∷ ws) ≡ false
open_split t u vs ws true e h r s = and_false (is_closed u) (list_all is_closed ws) (r (sym (ap (λ z. z && list_all is_closed vs) e) ∙ h))
open_split t u vs ws false e h r s = ap (λ z. z && list_all is_closed ws) (s e)

module _ (n : Table) where
  mutual
    argument_normal : (t u : Ty) → Argument n t u → IsNormal n u
    argument_normal t u (closed a b c f) = f.normal
    argument_normal t u (variable a v o) = normal_var u v o
    argument_normal t u (applied a b k ts us c o p q) = normal_nominal u k us p (arguments_normal ts us q)

    arguments_normal : (ts us : List Ty) → AllArguments n ts us → AllNormal n us
    arguments_normal ts us arguments_end = none
    arguments_normal ts us (arguments_more t u vs ws p q) = more u ws (argument_normal t u p) (arguments_normal vs ws q)

  mutual
    open_stays : (t u : Ty) → Argument n t u → is_closed t ≡ false → is_closed u ≡ false
    open_stays t u (closed a b c f) h = let g : true ≡ false = sym c ∙ h in cc
    open_stays t u (variable a v o) h = h
    open_stays t u (applied a b k ts us c o p q) h =
        let e : list_all is_closed ts ≡ false = sym (ap is_closed (is_nominal t k ts o) ∙ closed-nominal k ts) ∙ c in
        ap is_closed (is_nominal u k us p) ∙ closed-nominal k us ∙ all_open ts us q e

    all_open : (ts us : List Ty) → AllArguments n ts us → list_all is_closed ts ≡ false → list_all is_closed us ≡ false
    all_open ts us arguments_end h = h
    all_open ts us (arguments_more t u vs ws p q) h = open_split t u vs ws (is_closed t) refl h (all_open vs ws q) (open_stays t u p)

-- ARGUMENTS WITHIN BOUNDS
-- each type without variables that equals an argument is not outside its bounds
module _ (n : Table) (law : Lawful n) (ds : List Decl) where
  abbrev Within : ℕ → List Ty → Type 0
  Within k xs = (i : ℕ) → i < length xs → (c : Ty) → is_closed c ≡ true → Ways (Below n opaque) c (at xs i) → (Between n (bound_of ds k i) c → ⊥) → ⊥

  both_at : (xs ys : List Ty) → Both (Ways (Below n opaque)) xs ys → (i : ℕ) → i < length ys → (i < length xs) × Ways (Below n opaque) (at ys i) (at xs i)
  both_at xs ys both_end i l = absurd (omega arith)
  both_at xs ys (both_more x y vs ws p r) zero l = (omega arith, (p.1, p.0))
  both_at xs ys (both_more x y vs ws p r) (suc i) l = let s = both_at vs ws r i (omega arith) in (omega (arith, s.0), s.1)

  within_equal : (k : ℕ) (xs ys : List Ty) → Within k xs → Both (Ways (Below n opaque)) xs ys → Within k ys
  within_equal k xs ys w b i l c p e out =
      let s = both_at xs ys b i l in
      w i s.0 c p (equal_trans n law c (at ys i) (at xs i) e s.1) out

  -- an argument without variables that is not outside
  abbrev Fits : Given → Type 0
  Fits a = is_closed a.ty ≡ true → (Between n (bound_of ds a.of a.place) a.ty → ⊥) → ⊥

  -- no type without variables equals it
  abbrev IsOpen : Ty → Type 0
  IsOpen t = (c : Ty) → is_closed c ≡ true → Ways (Below n opaque) c t → ⊥

  closed_or : (k : ℕ) (ts : List Ty) → ((i : ℕ) → i < length ts → Fits (record { of = k; place = i; ty = at ts i })) → ((i : ℕ) → i < length ts → (is_closed (at ts i) ≡ true) ⊎ IsOpen (at ts i)) → Within k ts
  closed_or k ts f g i l c p e out = elim (g i l) [
    | inl q ↦ f i l q (λ b. out (between_equal n law (bound_of ds k i) (at ts i) c e.0 e.1 b))
    | inr q ↦ q c p e
  ]

  fits_at : (k : ℕ) (ts : List Ty) → AllGiven Fits (given_in (V.Nominal k ts)) → (i : ℕ) → i < length ts → Fits (record { of = k; place = i; ty = at ts i })
  fits_at k ts f i l =
      let g = given_left Fits (given_from k 0 ts) (flat_map given_in ts) (subst (AllGiven Fits) (given-nominal k ts) f) in
      let e : 0 + i ≡ i = omega arith in
      subst (λ z. Fits (record { of = k; place = z; ty = at ts i })) e (given_at Fits k 0 i ts l g)

  fits_each : (k : ℕ) (ts : List Ty) → AllGiven Fits (given_in (V.Nominal k ts)) → Each (λ t. AllGiven Fits (given_in t)) ts
  fits_each k ts f = given_each Fits ts (given_right Fits (given_from k 0 ts) (flat_map given_in ts) (subst (AllGiven Fits) (given-nominal k ts) f))

  abbrev H : Ty → Type 0
  H = Has AnyVar Within

  have_list : (A : Ty → Type 0) (ts : List Ty) → Each (λ t. A t → AllGiven Fits (given_in t) → H t) ts → Each A ts → Each (λ t. AllGiven Fits (given_in t)) ts → AllHave AnyVar Within ts
  have_list A [] e a f = have_none
  have_list A (t ∷ ts) e a f = have_more t ts (e.0 a.0 f.0) (have_list A ts e.1 a.1 f.1)

  abbrev Closed : Ty → Type 0
  Closed t = is_closed t ≡ true

  each_at : (A : Ty → Type 0) (ts : List Ty) → Each A ts → (i : ℕ) → i < length ts → A (at ts i)
  each_at A [] e i l = absurd (omega arith)
  each_at A (t ∷ ts) e zero l = e.0
  each_at A (t ∷ ts) e (suc i) l = each_at A ts e.1 i (omega arith)

  -- in a type without variables
  pub closed_fits : (t : Ty) → Closed t → AllGiven Fits (given_in t) → H t
  closed_fits = by_cases (λ t. Closed t → AllGiven Fits (given_in t) → H t) (record {
    any = λ c f. has_any W.Any outs-Any;
    union = λ ts e c f. has_union (V.Union ts) ts (outs-Union ts) (have_list Closed ts e (true_each is_closed ts (sym (closed-union ts) ∙ c)) (given_each Fits ts (subst (AllGiven Fits) (given-union ts) f)));
    tuple = λ ts e c f. has_tuple (V.Tuple ts) ts (outs-Tuple ts) (have_list Closed ts e (true_each is_closed ts (sym (closed-tuple ts) ∙ c)) (given_each Fits ts (subst (AllGiven Fits) (given-tuple ts) f)));
    nominal = λ k ts e c f.
        let cs = true_each is_closed ts (sym (closed-nominal k ts) ∙ c) in
        has_nominal (V.Nominal k ts) k ts (outs-Nominal k ts) (closed_or k ts (fits_at k ts f) (λ i l. inl (each_at Closed ts cs i l))) (have_list Closed ts e cs (fits_each k ts f));
    var = λ v c f. has_var (W.Var v) v (outs-Var v) tt;
  })

  at_zero : (k : ℕ) (ts : List Ty) → Within k ts → (i : ℕ) → i < length ts → Fits (record { of = k; place = 0 + i; ty = at ts i })
  at_zero k ts w i l =
      let e : 0 + i ≡ i = omega arith in
      subst (λ z. Fits (record { of = k; place = z; ty = at ts i })) (sym e) (λ c out. w i l (at ts i) c (equal_self n (at ts i)) out)

  -- and back
  mutual
    pub has_fits : (u : Ty) → H u → AllGiven Fits (given_in u)
    has_fits u (has_any a o) = subst (λ z. AllGiven Fits (given_in z)) (sym (is_any u o)) (subst (AllGiven Fits) (sym given-any) (given_none Fits))
    has_fits u (has_var a v o p) = subst (λ z. AllGiven Fits (given_in z)) (sym (is_var u v o)) (subst (AllGiven Fits) (sym (given-var v)) (given_none Fits))
    has_fits u (has_union a ts o p) = subst (λ z. AllGiven Fits (given_in z)) (sym (is_union u ts o)) (subst (AllGiven Fits) (sym (given-union ts)) (each_given Fits ts (have_fits ts p)))
    has_fits u (has_tuple a ts o p) = subst (λ z. AllGiven Fits (given_in z)) (sym (is_tuple u ts o)) (subst (AllGiven Fits) (sym (given-tuple ts)) (each_given Fits ts (have_fits ts p)))
    has_fits u (has_nominal a k ts o w p) =
        subst (λ z. AllGiven Fits (given_in z)) (sym (is_nominal u k ts o))
        (subst (AllGiven Fits) (sym (given-nominal k ts)) (given_both Fits (given_from k 0 ts) (flat_map given_in ts) (at_given Fits k 0 ts (at_zero k ts w)) (each_given Fits ts (have_fits ts p))))

    have_fits : (ts : List Ty) → AllHave AnyVar Within ts → Each (λ t. AllGiven Fits (given_in t)) ts
    have_fits ts have_none = tt
    have_fits ts (have_more t us p q) = (has_fits t p, have_fits us q)

-- A DECLARATION AND WHAT IS KEPT OF IT
module _ (ds : List Decl) (d e : Decl) (h : Declared ds) (w : IsWellWritten ds d) (law_e : Lawful (table_with ds e)) (k : IsKept (table_with ds d) d e) where
  abbrev n : Table
  n = table_with ds d

  abbrev m : ℕ
  m = length ds

  law : Lawful n
  law = with_lawful ds d w h

  abbrev all_decls : List Decl
  all_decls = ds ++ d ∷ []

  abbrev F : Given → Type 0
  F = Fits n law all_decls

  abbrev HasW : Ty → Type 0
  HasW = Has AnyVar (Within n law all_decls)

  -- an argument with a variable equals no type without
  placed_open : (t : Ty) → Known (m + 1) t → is_placed m t ≡ true → is_closed t ≡ false → IsOpen n law all_decls t
  placed_open t i p o c q s =
      let r = argument_exists ds d h t i p in
      let eq = argument_equal n t r.0 r.1 in
      let same = equal_trans n law c t r.0 s eq in
      let closed_u : is_closed r.0 ≡ true = has_closed r.0 (inherits NoVar AnyName n law (λ j xs ys a b. a) r.0 (argument_normal n t r.0 r.1) c (closed_has c q) same) in
      let open_u : is_closed r.0 ≡ false = open_stays n t r.0 r.1 o in
      let f : true ≡ false = sym closed_u ∙ open_u in cc

  abbrev IsArgument : Ty → Type 0
  IsArgument t = Known (m + 1) t × (is_placed m t ≡ true)

  both_each : (ts : List Ty) → Each (Known (m + 1)) ts → Each (λ t. is_placed m t ≡ true) ts → Each IsArgument ts
  both_each [] i p = tt
  both_each (t ∷ ts) i p = ((i.0, p.0), both_each ts i.1 p.1)

  nominal_within : (j : ℕ) (ts : List Ty) → Each IsArgument ts → AllGiven F (given_in (V.Nominal j ts)) → Within n law all_decls j ts
  nominal_within j ts a f =
      closed_or n law all_decls j ts (fits_at n law all_decls j ts f)
      (λ i l. let b = each_at n law all_decls IsArgument ts a i l in elim (true_or (is_closed (at ts i))) [ inl c ↦ inl c | inr o ↦ inr (placed_open (at ts i) b.0 b.1 o) ])

  free_fits : (t : Ty) → is_free_of m t ≡ true → Known (m + 1) t → AllGiven F (given_in t) → HasW t
  free_fits t p i f = closed_fits n law all_decls t (free_known m t p i).0 f

  argument_fits : (t : Ty) → IsArgument t → AllGiven F (given_in t) → HasW t
  argument_fits = by_cases (λ t. IsArgument t → AllGiven F (given_in t) → HasW t) (record {
    any = λ a f. has_any W.Any outs-Any;
    union = λ ts r a f. free_fits (V.Union ts) (free-union m ts ∙ sym (placed-union m ts) ∙ a.1) a.0 f;
    tuple = λ ts r a f. free_fits (V.Tuple ts) (free-tuple m ts ∙ sym (placed-tuple m ts) ∙ a.1) a.0 f;
    nominal = λ j ts r a f.
        let b = both_each ts (nominal_known (m + 1) j ts a.0).1 (true_each (is_placed m) ts (sym (placed-nominal m j ts) ∙ a.1)) in
        has_nominal (V.Nominal j ts) j ts (outs-Nominal j ts) (nominal_within j ts b f) (have_list n law all_decls IsArgument ts r b (fits_each n law all_decls j ts f));
    var = λ v a f. has_var (W.Var v) v (outs-Var v) tt;
  })

  each_argument : (ts : List Ty) → Each (λ t. IsArgument t → AllGiven F (given_in t) → HasW t) ts
  each_argument [] = tt
  each_argument (t ∷ ts) = (argument_fits t, each_argument ts)

  abbrev IsField : Ty → Type 0
  IsField t = Known (m + 1) t × (is_placed_field m t ≡ true)

  both_fields : (ts : List Ty) → Each (Known (m + 1)) ts → Each (λ t. is_placed_field m t ≡ true) ts → Each IsField ts
  both_fields [] i p = tt
  both_fields (t ∷ ts) i p = ((i.0, p.0), both_fields ts i.1 p.1)

  field_fits : (t : Ty) → IsField t → AllGiven F (given_in t) → HasW t
  field_fits = by_cases (λ t. IsField t → AllGiven F (given_in t) → HasW t) (record {
    any = λ a f. has_any W.Any outs-Any;
    union = λ ts r a f.
        let b = both_fields ts (union_known (m + 1) ts a.0) (true_each (is_placed_field m) ts (sym (field-union m ts) ∙ a.1)) in
        has_union (V.Union ts) ts (outs-Union ts) (have_list n law all_decls IsField ts r b (given_each F ts (subst (AllGiven F) (given-union ts) f)));
    tuple = λ ts r a f.
        let b = both_fields ts (tuple_known (m + 1) ts a.0) (true_each (is_placed_field m) ts (sym (field-tuple m ts) ∙ a.1)) in
        has_tuple (V.Tuple ts) ts (outs-Tuple ts) (have_list n law all_decls IsField ts r b (given_each F ts (subst (AllGiven F) (given-tuple ts) f)));
    nominal = λ j ts r a f.
        let b = both_each ts (nominal_known (m + 1) j ts a.0).1 (true_each (is_placed m) ts (sym (field-nominal m j ts) ∙ a.1)) in
        has_nominal (V.Nominal j ts) j ts (outs-Nominal j ts) (nominal_within j ts b f) (have_list n law all_decls IsArgument ts (each_argument ts) b (fits_each n law all_decls j ts f));
    var = λ v a f. has_var (W.Var v) v (outs-Var v) tt;
  })

  each_field : (ts : List Ty) → Each (λ t. IsField t → AllGiven F (given_in t) → HasW t) ts
  each_field [] = tt
  each_field (t ∷ ts) = (field_fits t, each_field ts)

  each_closed : (ts : List Ty) → Each (λ t. Closed n law all_decls t → AllGiven F (given_in t) → HasW t) ts
  each_closed [] = tt
  each_closed (t ∷ ts) = (closed_fits n law all_decls t, each_closed ts)

  each_front : (P : Ty → Type 0) (xs ys : List Ty) → Each P (xs ++ ys) → Each P xs
  each_front P [] ys r = tt
  each_front P (x ∷ xs) ys r = (r.0, each_front P xs ys r.1)

  each_back : (P : Ty → Type 0) (xs ys : List Ty) → Each P (xs ++ ys) → Each P ys
  each_back P [] ys r = r
  each_back P (x ∷ xs) ys r = each_back P xs ys r.1

  each_join : (P : Ty → Type 0) (xs ys : List Ty) → Each P xs → Each P ys → Each P (xs ++ ys)
  each_join P [] ys r s = s
  each_join P (x ∷ xs) ys r s = (r.0, each_join P xs ys r.1 s)

  each_fits : (ts : List Ty) → AllHave AnyVar (Within n law all_decls) ts → Each (λ t. AllGiven F (given_in t)) ts
  each_fits ts have_none = tt
  each_fits ts (have_more t us p q) = (has_fits n law all_decls t p, each_fits us q)

  abbrev Q : Ty → Type 0
  Q t = AllGiven F (given_in t)

  -- no argument of what is kept is outside the bounds with d
  kept_fits : AllGiven F (flat_map given_in (types_of d)) → AllGiven F (flat_map given_in (types_of e))
  kept_fits f =
      let g = given_each F (types_of d) f in
      let gb = each_front Q (bound_types d.params) (d.parent ∷ field_types d.fields) g in
      let gr = each_back Q (bound_types d.params) (d.parent ∷ field_types d.fields) g in
      let equal = within_equal n law all_decls in
      let P = Within n law all_decls in
      let b = bounds_have n law AnyVar P equal d.params e.params k.params (have_list n law all_decls (Closed n law all_decls) (bound_types d.params) (each_closed (bound_types d.params)) (true_each is_closed (bound_types d.params) (bounds_are_closed ds d w)) gb) in
      let p = settled_has n law AnyVar P equal d.parent e.parent k.parent (field_fits d.parent (parent_known_next ds d h w, parent_is_field ds d h w) gr.0) in
      let fs = both_fields (field_types d.fields) (true_each (is_known (m + 1)) (field_types d.fields) (own_known ds d w)) (true_each (is_placed_field m) (field_types d.fields) (fields_are_placed ds d w)) in
      let t = all_settled_have n law AnyVar P equal (field_types d.fields) (field_types e.fields) k.fields (have_list n law all_decls IsField (field_types d.fields) (each_field (field_types d.fields)) fs gr.1) in
      each_given F (types_of e) (each_join Q (bound_types e.params) (e.parent ∷ field_types e.fields) (each_fits (bound_types e.params) b) (has_fits n law all_decls e.parent p, each_fits (field_types e.fields) t))

  long : length d.params ≡ length e.params
  long = bounds_long n d.params e.params k.params

  there : (t u : Ty) → Below n opaque t u → Below (table_with ds e) opaque t u
  there = order_there ds d e h law law_e (parent_is_known ds d w) k.parent long

  between_there : (b : Bound) (t : Ty) → Between n b t → Between (table_with ds e) b t
  between_there b t s = (there b.low t s.0, there t b.high s.1)

  -- the bounds as they are kept
  between_kept : (bs cs : List Bound) → Bounds n bs cs → (i : ℕ) (t : Ty) → Between n (get_or bs i free) t → Between n (get_or cs i free) t
  between_kept bs cs bounds_end i t s = s
  between_kept bs cs (bounds_more b x as_ es l u r) zero t s = (below_trans n law x.low b.low t l.equal.1 s.0, below_trans n law t b.high x.high s.1 u.equal.0)
  between_kept bs cs (bounds_more b x as_ es l u r) (suc i) t s = between_kept as_ es r i t s

  order_of : (a b : ℕ) → (a < b) ⊎ ((a ≡ b) ⊎ (b < a))
  order_of zero zero = inr (inl refl)
  order_of zero (suc b) = inl (omega arith)
  order_of (suc a) zero = inr (inr (omega arith))
  order_of (suc a) (suc b) = elim (order_of a b) [ inl p ↦ inl (omega arith) | inr g ↦ elim g [ inl p ↦ inr (inl (omega arith)) | inr p ↦ inr (inr (omega arith)) ] ]

  pub between_next : (j i : ℕ) (t : Ty) → Between n (bound_of (ds ++ d ∷ []) j i) t → Between n (bound_of (ds ++ e ∷ []) j i) t
  between_next j i t s = elim (order_of j m) [
    | inl lt ↦
        let q = slice_before ds d j lt ∙ sym (slice_before ds e j lt) in
        subst (λ o. Between n (get_or (params_of o) i free) t) q s
    | inr g ↦ elim g [
      | inl p ↦
          let q = subst (λ o. Between n (get_or (params_of o) i free) t) (slice_last ds d j p) s in
          subst (λ o. Between n (get_or (params_of o) i free) t) (sym (slice_last ds e j p)) (between_kept d.params e.params k.params i t q)
      | inr gt ↦
          let q = slice_past (ds ++ d ∷ []) j (omega (arith, long-snoc ds d)) ∙ sym (slice_past (ds ++ e ∷ []) j (omega (arith, long-snoc ds e))) in
          subst (λ o. Between n (get_or (params_of o) i free) t) q s
    ]
  ]

  -- and back
  between_written : (bs cs : List Bound) → Bounds n bs cs → (i : ℕ) (t : Ty) → Between n (get_or cs i free) t → Between n (get_or bs i free) t
  between_written bs cs bounds_end i t s = s
  between_written bs cs (bounds_more b x as_ es l u r) zero t s = (below_trans n law b.low x.low t l.equal.0 s.0, below_trans n law t x.high b.high s.1 u.equal.1)
  between_written bs cs (bounds_more b x as_ es l u r) (suc i) t s = between_written as_ es r i t s

  pub between_before : (j i : ℕ) (t : Ty) → Between n (bound_of (ds ++ e ∷ []) j i) t → Between n (bound_of (ds ++ d ∷ []) j i) t
  between_before j i t s = elim (order_of j m) [
    | inl lt ↦
        let q = slice_before ds e j lt ∙ sym (slice_before ds d j lt) in
        subst (λ o. Between n (get_or (params_of o) i free) t) q s
    | inr g ↦ elim g [
      | inl p ↦
          let q = subst (λ o. Between n (get_or (params_of o) i free) t) (slice_last ds e j p) s in
          subst (λ o. Between n (get_or (params_of o) i free) t) (sym (slice_last ds d j p)) (between_written d.params e.params k.params i t q)
      | inr gt ↦
          let q = slice_past (ds ++ e ∷ []) j (omega (arith, long-snoc ds e)) ∙ sym (slice_past (ds ++ d ∷ []) j (omega (arith, long-snoc ds d))) in
          subst (λ o. Between n (get_or (params_of o) i free) t) q s
    ]
  ]

  -- no argument of what is kept is outside the bounds
  pub bounded_kept : (BoundBroken ds d → ⊥) → BoundBroken ds e → ⊥
  bounded_kept out b =
      let all = kept_fits (λ a c q x. out (a, c, q, x)) in
      all b.0 b.1 b.2 (λ s. b.3 (between_there (bound_of (ds ++ e ∷ []) b.0.of b.0.place) b.0.ty (between_next b.0.of b.0.place b.0.ty s)))
