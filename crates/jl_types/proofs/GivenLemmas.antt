-- The arguments of nominal types in a type.
use Rattle.std.proofs.Common.{◌≡◌, ◌∙◌, sym, ap, subst, refl, ℕ, zero, suc, ◌+◌, ◌<◌, arith, List, [], ◌∷◌, ◌++◌, map, length, inl, inr}
use Rattle.std.specs.List.{flat_map, Contains}
use Rattle.std.proofs.lemmas.List.Elements.{Contains-append_left, Contains-append_right, Contains-append_cases}
use Rattle.jl_model.specs.declared.ty.Ty.{Ty}
use Rattle.jl_model.specs.declared.ty.Ty.TheOpen.{Any, Union, Tuple, Nominal, Var}
use Rattle.jl_model.specs.declared.ty.Ty.TheViews.{rolls-Any, rolls-Union, rolls-Tuple, rolls-Nominal, rolls-Var}
use Rattle.jl_model.specs.declared.ty.Ty.TheViews as V
use Rattle.jl_model.specs.declared.ty.Ty.TheVariants as W
use Rattle.jl_model.specs.declared.ty.Ty.TheFolds.{para-roll-Ty}
use Rattle.jl_model.specs.Subtype.{at}
use Rattle.jl_model.specs.Refusals.{Given, given_from, given_in, given_step}
use Rattle.jl_model.proofs.TypeInduction.{Each}
use Rattle.jl_model.proofs.FormLemmas.{firsts, flat_seconds}

pub given-any : given_in W.Any ≡ []
given-any = ap given_in (sym rolls-Any) ∙ para-roll-Ty (List Given) given_step Any

pub given-var : (v : ℕ) → given_in (W.Var v) ≡ []
given-var v = ap given_in (sym (rolls-Var v)) ∙ para-roll-Ty (List Given) given_step (Var v)

pub given-union : (ts : List Ty) → given_in (V.Union ts) ≡ flat_map given_in ts
given-union ts = ap given_in (sym (rolls-Union ts)) ∙ para-roll-Ty (List Given) given_step (Union ts) ∙ flat_seconds given_in ts

pub given-tuple : (ts : List Ty) → given_in (V.Tuple ts) ≡ flat_map given_in ts
given-tuple ts = ap given_in (sym (rolls-Tuple ts)) ∙ para-roll-Ty (List Given) given_step (Tuple ts) ∙ flat_seconds given_in ts

pub given-nominal : (k : ℕ) (ts : List Ty) → given_in (V.Nominal k ts) ≡ given_from k 0 ts ++ flat_map given_in ts
given-nominal k ts =
    ap given_in (sym (rolls-Nominal k ts)) ∙ para-roll-Ty (List Given) given_step (Nominal k ts)
    ∙ ap (λ zs. given_from k 0 zs ++ flat_map (λ e. e.1) (map (λ t. let p : Ty × List Given = (t, given_in t) in p) ts)) (firsts given_in ts)
    ∙ ap (λ zs. given_from k 0 ts ++ zs) (flat_seconds given_in ts)

-- Q holds of each
abbrev pub AllGiven : (Given → Type 0) → List Given → Type 0
AllGiven Q gs = (a : Given) → Contains gs a → Q a

module _ (Q : Given → Type 0) where
  pub given_left : (gs hs : List Given) → AllGiven Q (gs ++ hs) → AllGiven Q gs
  given_left gs hs f a c = f a (Contains-append_left gs hs a c)

  pub given_right : (gs hs : List Given) → AllGiven Q (gs ++ hs) → AllGiven Q hs
  given_right gs hs f a c = f a (Contains-append_right gs hs a c)

  pub given_both : (gs hs : List Given) → AllGiven Q gs → AllGiven Q hs → AllGiven Q (gs ++ hs)
  given_both gs hs f g a c = elim (Contains-append_cases gs hs a c) [ inl l ↦ f a l | inr r ↦ g a r ]

  pub given_none : AllGiven Q []
  given_none a c = absurd (omega (arith, c.1))

  pub given_each : (ts : List Ty) → AllGiven Q (flat_map given_in ts) → Each (λ t. AllGiven Q (given_in t)) ts
  given_each [] f = tt
  given_each (t ∷ ts) f = (given_left (given_in t) (flat_map given_in ts) f, given_each ts (given_right (given_in t) (flat_map given_in ts) f))

  pub each_given : (ts : List Ty) → Each (λ t. AllGiven Q (given_in t)) ts → AllGiven Q (flat_map given_in ts)
  each_given [] e = given_none
  each_given (t ∷ ts) e = given_both (given_in t) (flat_map given_in ts) e.0 (each_given ts e.1)

  -- those of one nominal type
  pub given_at : (k j i : ℕ) (ts : List Ty) → i < length ts → AllGiven Q (given_from k j ts) → Q (record { of = k; place = j + i; ty = at ts i })
  given_at k j i [] l f = absurd (omega arith)
  given_at k j zero (t ∷ ts) l f =
      let e : j + 0 ≡ j = omega arith in
      subst (λ z. Q (record { of = k; place = z; ty = t })) (sym e) (f (record { of = k; place = j; ty = t }) (zero, omega arith, refl))
  given_at k j (suc i) (t ∷ ts) l f =
      let e : j + suc i ≡ (j + 1) + i = omega arith in
      let g : AllGiven Q (given_from k (j + 1) ts) = λ a c. f a (suc c.0, omega (arith, c.1), c.2) in
      subst (λ z. Q (record { of = k; place = z; ty = at ts i })) (sym e) (given_at k (j + 1) i ts (omega arith) g)

  pub at_given : (k j : ℕ) (ts : List Ty) → ((i : ℕ) → i < length ts → Q (record { of = k; place = j + i; ty = at ts i })) → AllGiven Q (given_from k j ts)
  at_given k j [] f a c = absurd (omega (arith, c.1))
  at_given k j (t ∷ ts) f a (zero, l, e) =
      let z : j + 0 ≡ j = omega arith in
      subst Q e (subst (λ y. Q (record { of = k; place = y; ty = t })) z (f zero (omega arith)))
  at_given k j (t ∷ ts) f a (suc i, l, e) =
      at_given k (j + 1) ts (λ x s. let z : j + suc x ≡ (j + 1) + x = omega arith in subst (λ y. Q (record { of = k; place = y; ty = at ts x })) z (f (suc x) (omega arith))) a (i, omega arith, e)
