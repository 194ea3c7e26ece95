-- The first broken nominal type of a list, put together from those of its parts; and that each type of a small signature can be kept.
use Rattle.std.proofs.Common.{◌≡◌, ◌∙◌, sym, ap, subst, refl, ℕ, zero, suc, ◌+◌, ◌<◌, ◌≤◌, inl, inr, arith, Bool, true, List, [], ◌∷◌, ◌++◌, map, length, drop, get_or, add-one, Option, None, Some, slice_get}
use Rattle.std.specs.List.{flat_map, list_all, Contains}
use Rattle.std.proofs.lemmas.List.Elements.{Contains-append_left, Contains-append_right}
use Rattle.jl_model.specs.declared.ty.Ty.{Ty}
use Rattle.jl_model.specs.declared.ty.Ty.TheViews as V
use Rattle.jl_model.specs.declared.ty.Ty.TheVariants as W
use Rattle.jl_model.specs.declared.ty.Decl.{Decl}
use Rattle.jl_model.specs.declared.ty.Written.{Written}
use Rattle.jl_model.specs.Counts.{nodes, total}
use Rattle.jl_model.specs.Refusals.{Declared, bound_types, Given, given_in}
use Rattle.jl_model.specs.Rows.{width}
use Rattle.jl_model.specs.SigRefusals.{types_in, are_bounds, are_placed, is_component, VariablePlace, TypeLimit}
use Rattle.jl_model.specs.Valid.{is_known}
use Rattle.jl_model.proofs.DeclaredLemmas.{not_false}
use Rattle.jl_model.proofs.PutLemmas.{and_l, and_r}
use Rattle.jl_sig.specs.Parts.{HasWide}
use Rattle.jl_sig.specs.Fit.{IsFit, AllFit, AllFitArguments}
use Rattle.jl_sig.proofs.BoundLemmas.{bounds_components}
use Rattle.jl_sig.proofs.FitLemmas.{nominal_fit}
use Rattle.jl_sig.proofs.LimitLemmas.{large_argument}
use Rattle.jl_program.specs.declared.fault.Fault.TheVariants as F
use Rattle.jl_calculus.specs.Laws.{HasBroken}
use Rattle.jl_calculus.specs.Statics.{IsBroken, nominals_in, is_bad_parameter}
use Rattle.jl_calculus.proofs.BrokenLemmas.{nominals-any, nominals-var, nominals-union, nominals-tuple, nominals-nominal}
use Rattle.jl_operations.specs.Broken.{IsFirstOf, IsNamed}
use Rattle.jl_operations.proofs.BodyLemmas.{argument_component}

-- ---- members

no_member : {X : Type 0} (y : X) → Contains [] y → ⊥
no_member y c = absurd (omega (arith, c.1))

one_member : (x y : Ty) → Contains (x ∷ []) y → x ≡ y
one_member x y (zero, l, e) = e
one_member x y (suc k, l, e) = absurd (omega (arith, l))

true_in : (q : Ty → Bool) (ts : List Ty) (x : Ty) → list_all q ts ≡ true → Contains ts x → q x ≡ true
true_in q [] x g d = absurd (no_member x d)
true_in q (y ∷ ys) x g (zero, o, e) = ap q (sym e) ∙ and_l (q y) (list_all q ys) g
true_in q (y ∷ ys) x g (suc i, o, e) = true_in q ys x (and_r (q y) (list_all q ys) g) (i, omega (arith, o), e)

flat_in : (ts : List Ty) (t : Ty) (a : Given) → Contains ts t → Contains (given_in t) a → Contains (flat_map given_in ts) a
flat_in [] t a c d = absurd (no_member t c)
flat_in (x ∷ xs) t a (zero, l, e) d = Contains-append_left (given_in x) (flat_map given_in xs) a (subst (λ z. Contains (given_in z) a) (sym e) d)
flat_in (x ∷ xs) t a (suc i, l, e) d = Contains-append_right (given_in x) (flat_map given_in xs) a (flat_in xs t a (i, omega (arith, l), e) d)

slice_within : (xs : List Ty) (i : ℕ) (t : Ty) → slice_get xs i ≡ Some t → i < length xs
slice_within [] i t e = cc
slice_within (x ∷ xs) zero t e = omega arith
slice_within (x ∷ xs) (suc i) t e = let h = slice_within xs i t e in omega (arith, h)

slice_left : (xs ys : List Ty) (i : ℕ) → i < length xs → slice_get (xs ++ ys) i ≡ slice_get xs i
slice_left [] ys i l = absurd (omega (arith, l))
slice_left (x ∷ xs) ys zero l = refl
slice_left (x ∷ xs) ys (suc i) l = slice_left xs ys i (omega (arith, l))

-- ---- the first of a joined list

module _ (ds : List Decl) where
  none_first : IsFirstOf ds [] None
  none_first t c b = no_member t c

  pub nothing_first : (ts : List Ty) → ts ≡ [] → IsFirstOf ds ts None
  nothing_first ts e = subst (λ z. IsFirstOf ds z None) (sym e) none_first

  -- one that is not broken before them
  skip_none : (x : Ty) (xs : List Ty) → (IsBroken ds x → ⊥) → IsFirstOf ds xs None → IsFirstOf ds (x ∷ xs) None
  skip_none x xs n f t (zero, l, e) b = n (subst (IsBroken ds) (sym e) b)
  skip_none x xs n f t (suc i, l, e) b = f t (i, omega (arith, l), e) b

  skip_some : (x : Ty) (xs : List Ty) (u : Ty) → (IsBroken ds x → ⊥) → IsFirstOf ds xs (Some u) → IsFirstOf ds (x ∷ xs) (Some u)
  skip_some x xs u n (t, h, s, k) = (t, record { place = suc h.place; there = h.there; broken = h.broken; first = before }, s, k)
    where
      before : (i : ℕ) (v : Ty) → i < suc h.place → slice_get (x ∷ xs) i ≡ Some v → IsBroken ds v → ⊥
      before zero v l e b = let z : x ≡ v = cc in n (subst (IsBroken ds) (sym z) b)
      before (suc i) v l e b = h.first i v (omega (arith, l)) e b

  skip : (x : Ty) (xs : List Ty) (o : Option Ty) → (IsBroken ds x → ⊥) → IsFirstOf ds xs o → IsFirstOf ds (x ∷ xs) o
  skip x xs None n f = skip_none x xs n f
  skip x xs (Some u) n f = skip_some x xs u n f

  pub first_after : (xs ys : List Ty) (o : Option Ty) → IsFirstOf ds xs None → IsFirstOf ds ys o → IsFirstOf ds (xs ++ ys) o
  first_after [] ys o n f = f
  first_after (x ∷ xs) ys o n f =
      skip x (xs ++ ys) o (n x (zero, omega arith, refl)) (first_after xs ys o (λ t c. n t (suc c.0, omega (arith, c.1), c.2)) f)

  pub first_before : (xs ys : List Ty) (u : Ty) → IsFirstOf ds xs (Some u) → IsFirstOf ds (xs ++ ys) (Some u)
  first_before xs ys u (t, h, s, known) =
      let w = slice_within xs h.place t h.there in (
        t,
        record {
          place = h.place;
          there = slice_left xs ys h.place w ∙ h.there;
          broken = h.broken;
          first = λ i v l e k. h.first i v l (sym (slice_left xs ys i (omega (arith, l, w))) ∙ e) k;
        },
        s,
        known,
      )

-- ---- the types of a small signature

module _ (ds : List Decl) (declared : Declared ds) (s : Written) (known : list_all (is_known (length ds)) (types_in s) ≡ true) (placed : VariablePlace s → ⊥) (small : TypeLimit ds s → ⊥) where
  few : total (map nodes (types_in s)) ≤ 1024
  few = let h : 1024 < total (map nodes (types_in s)) → ⊥ = λ l. small (inl l) in omega (arith, h)

  narrow : HasWide (types_in s) → ⊥
  narrow h = small (inr (inl h))

  well : are_placed s ≡ true
  well = not_false (are_placed s) placed

  fit_one : (t : Ty) → Contains (types_in s) t → is_component t ≡ true → IsFit ds t
  fit_one t c p = record {
    known = true_in (is_known (length ds)) (types_in s) t known c;
    placed = p;
    small = λ a d k l. small (inr (inr (inl (large_argument ds declared s few narrow (a, flat_in (types_in s) t a c d, (k, l))))));
  }

  fit_all : (ts : List Ty) → ((t : Ty) → Contains ts t → Contains (types_in s) t × (is_component t ≡ true)) → AllFit ds ts
  fit_all [] h = tt
  fit_all (t ∷ ts) h = let c = h t (zero, omega arith, refl) in (fit_one t c.0 c.1, fit_all ts (λ u d. h u (suc d.0, omega (arith, d.1), d.2)))

  pub parts_fit : AllFit ds s.parts
  parts_fit =
      fit_all s.parts
      (λ t c. (Contains-append_right (bound_types s.vars) s.parts t c, true_in is_component s.parts t (and_r (are_bounds (width s) 0 s.vars) (list_all is_component s.parts) well) c))

  pub bounds_fit : AllFit ds (bound_types s.vars)
  bounds_fit =
      fit_all (bound_types s.vars)
      (λ t c. (Contains-append_left (bound_types s.vars) s.parts t c, bounds_components (width s) 0 s.vars t (and_l (are_bounds (width s) 0 s.vars) (list_all is_component s.parts) well) c))

pub fit_both : (ds : List Decl) (xs ys : List Ty) → AllFit ds xs → AllFit ds ys → AllFit ds (xs ++ ys)
fit_both ds [] ys e f = f
fit_both ds (x ∷ xs) ys e f = (e.0, fit_both ds xs ys e.1 f)

-- ---- the first in a type, form by form

module _ (ds : List Decl) where
  pub first_any : (t : Ty) → t ≡ W.Any → IsFirstOf ds (nominals_in t) None
  first_any t e = nothing_first ds (nominals_in t) (ap nominals_in e ∙ nominals-any)

  pub first_var : (t : Ty) (v : ℕ) → t ≡ W.Var v → IsFirstOf ds (nominals_in t) None
  first_var t v e = nothing_first ds (nominals_in t) (ap nominals_in e ∙ nominals-var v)

  pub first_union : (t : Ty) (ts vs : List Ty) (o : Option Ty) → t ≡ V.Union ts → vs ≡ ts → IsFirstOf ds (flat_map nominals_in vs) o → IsFirstOf ds (nominals_in t) o
  first_union t ts vs o e f h = subst (λ z. IsFirstOf ds z o) (sym (ap nominals_in e ∙ nominals-union ts ∙ ap (flat_map nominals_in) (sym f))) h

  pub first_tuple : (t : Ty) (ts vs : List Ty) (o : Option Ty) → t ≡ V.Tuple ts → vs ≡ ts → IsFirstOf ds (flat_map nominals_in vs) o → IsFirstOf ds (nominals_in t) o
  first_tuple t ts vs o e f h = subst (λ z. IsFirstOf ds z o) (sym (ap nominals_in e ∙ nominals-tuple ts ∙ ap (flat_map nominals_in) (sym f))) h

  nominal_is : (t : Ty) (k : ℕ) (ts vs : List Ty) → t ≡ V.Nominal k ts → vs ≡ ts → nominals_in t ≡ flat_map nominals_in vs ++ V.Nominal k vs ∷ []
  nominal_is t k ts vs e f = ap nominals_in (e ∙ ap (λ z. V.Nominal k z) (sym f)) ∙ nominals-nominal k vs

  pub first_argument : (t : Ty) (k : ℕ) (ts vs : List Ty) (u : Ty) (o : Option Ty) → t ≡ V.Nominal k ts → vs ≡ ts → IsFirstOf ds (flat_map nominals_in vs) o → o ≡ Some u → IsFirstOf ds (nominals_in t) (Some u)
  first_argument t k ts vs u o e f h i =
      subst (λ z. IsFirstOf ds z (Some u)) (sym (nominal_is t k ts vs e f)) (first_before ds (flat_map nominals_in vs) (V.Nominal k vs ∷ []) u (subst (IsFirstOf ds (flat_map nominals_in vs)) i h))

  pub first_own : (t : Ty) (k : ℕ) (ts vs : List Ty) (n o : Option Ty) → t ≡ V.Nominal k ts → vs ≡ ts → IsFirstOf ds (flat_map nominals_in vs) n → n ≡ None → IsFirstOf ds (V.Nominal k vs ∷ []) o → IsFirstOf ds (nominals_in t) o
  first_own t k ts vs n o e f h i g =
      subst (λ z. IsFirstOf ds z o) (sym (nominal_is t k ts vs e f)) (first_after ds (flat_map nominals_in vs) (V.Nominal k vs ∷ []) o (subst (IsFirstOf ds (flat_map nominals_in vs)) i h) g)

  pub fit_same : (t u : Ty) → t ≡ u → IsFit ds t → IsFit ds u
  fit_same t u e f = subst (IsFit ds) e f

  -- the arguments of a type that can be kept can be kept as parts too
  arguments_as_parts : (ts : List Ty) → AllFitArguments ds ts → AllFit ds ts
  arguments_as_parts [] f = tt
  arguments_as_parts (t ∷ ts) f = (record { known = f.0.known; placed = argument_component t f.0.placed; small = f.0.small }, arguments_as_parts ts f.1)

  pub nominal_parts : (t : Ty) (k : ℕ) (ts vs : List Ty) → t ≡ V.Nominal k ts → vs ≡ ts → IsFit ds t → AllFit ds vs
  nominal_parts t k ts vs e f h = arguments_as_parts vs (nominal_fit ds t k ts vs e f h)

  -- in a list
  list_at : (ts : List Ty) (i : ℕ) (t : Ty) → i < length ts → t ≡ get_or ts i t → drop i ts ≡ t ∷ drop (i + 1) ts
  list_at [] i t l e = absurd (omega (arith, l))
  list_at (x ∷ xs) zero t l e = ap (λ z. z ∷ xs) (sym e)
  list_at (x ∷ xs) (suc i) t l e = rw add-one (rw add-one at (list_at xs i t (omega (arith, l)) e))

  pub first_on : (ts : List Ty) (i : ℕ) (t : Ty) (n : Option Ty) → i < length ts → t ≡ get_or ts i t → IsFirstOf ds (nominals_in t) n → n ≡ None
      → ((o : Option Ty) → IsFirstOf ds (flat_map nominals_in (drop i ts)) o → IsFirstOf ds (flat_map nominals_in ts) o)
      → (o : Option Ty) → IsFirstOf ds (flat_map nominals_in (drop (i + 1) ts)) o → IsFirstOf ds (flat_map nominals_in ts) o
  first_on ts i t n l e h j k o f =
      k o (subst (λ z. IsFirstOf ds (flat_map nominals_in z) o) (sym (list_at ts i t l e)) (first_after ds (nominals_in t) (flat_map nominals_in (drop (i + 1) ts)) o (subst (IsFirstOf ds (nominals_in t)) j h) f))

  pub first_here : (ts : List Ty) (i : ℕ) (t u : Ty) (n : Option Ty) → i < length ts → t ≡ get_or ts i t → IsFirstOf ds (nominals_in t) n → n ≡ Some u
      → ((o : Option Ty) → IsFirstOf ds (flat_map nominals_in (drop i ts)) o → IsFirstOf ds (flat_map nominals_in ts) o) → IsFirstOf ds (flat_map nominals_in ts) (Some u)
  first_here ts i t u n l e h j k =
      k (Some u) (subst (λ z. IsFirstOf ds (flat_map nominals_in z) (Some u)) (sym (list_at ts i t l e)) (first_before ds (nominals_in t) (flat_map nominals_in (drop (i + 1) ts)) u (subst (IsFirstOf ds (nominals_in t)) j h)))

  pub first_end : (ts : List Ty) (i : ℕ) → drop i ts ≡ [] → ((o : Option Ty) → IsFirstOf ds (flat_map nominals_in (drop i ts)) o → IsFirstOf ds (flat_map nominals_in ts) o) → IsFirstOf ds (flat_map nominals_in ts) None
  first_end ts i e k = k None (nothing_first ds (flat_map nominals_in (drop i ts)) (ap (flat_map nominals_in) e))

pub not_some : (o : Option Ty) → ((t : Ty) → o ≡ Some t → ⊥) → o ≡ None
not_some None h = refl
not_some (Some t) h = absurd (h t refl)

-- ---- the fault

pub named_fault : (ds : List Decl) (ts : List Ty) (o : Option Ty) (u : Ty) → IsFirstOf ds ts o → o ≡ Some u → is_bad_parameter ds ts (F.BadParameter u)
named_fault ds ts o u h e = let r : IsFirstOf ds ts (Some u) = subst (IsFirstOf ds ts) e h in (r.0, u, r.1, r.2, refl)

pub fault_named : (ds : List Decl) (ts : List Ty) (o : Option Ty) (u : Ty) → IsFirstOf ds ts o → o ≡ Some u → IsNamed ds (F.BadParameter u)
fault_named ds ts o u h e = let r : IsFirstOf ds ts (Some u) = subst (IsFirstOf ds ts) e h in (u, refl, r.3)

pub some_broken : (ds : List Decl) (ts : List Ty) (o : Option Ty) → IsFirstOf ds ts o → o ≡ None → HasBroken ds ts → ⊥
some_broken ds ts o h e b = let r : IsFirstOf ds ts None = subst (IsFirstOf ds ts) e h in r b.0 b.1 b.2
