-- Arguments without variables in normal form, and whether those of one nominal type are outside the declared bounds.
use Rattle.std.proofs.Common.{◌≡◌, ◌∙◌, sym, ap, subst, refl, ℕ, zero, suc, ◌+◌, ◌↔◌, arith, Bool, true, false, IsTrue, nat_lt, List, [], ◌∷◌, length, get_or, None, Some, slice_get}
use Rattle.std.specs.List.{flat_map, list_all, Contains}
use Rattle.std.proofs.lemmas.List.Elements.{Contains-append_left}
use Rattle.jl_model.specs.declared.ty.Ty.{Ty, out-Ty}
use Rattle.jl_model.specs.declared.ty.Ty.TheOpen.{Ty-F, Any, Union, Tuple, Nominal, Var}
use Rattle.jl_model.specs.declared.ty.Ty.TheViews.{outs-Nominal}
use Rattle.jl_model.specs.declared.ty.Ty.TheViews as V
use Rattle.jl_model.specs.declared.ty.Decl.{Decl}
use Rattle.jl_model.specs.Ancestors.{table_of}
use Rattle.jl_model.specs.Kept.{Argument, AllArguments, closed, variable, nominal as with_arguments, arguments_end, arguments_more, nominal as named_type}
use Rattle.jl_model.specs.Normal.{IsNormalForm}
use Rattle.jl_model.specs.Refusals.{Declared, Given, given_from, given_in, Between}
use Rattle.jl_model.specs.Rows.{free}
use Rattle.jl_model.specs.SigRefusals.{is_argument}
use Rattle.jl_model.specs.Signature.{Both, both_end, both_more}
use Rattle.jl_model.specs.Valid.{is_known, is_closed, params_of}
use Rattle.jl_model.proofs.FormLemmas.{is_any, is_union, is_tuple, is_nominal}
use Rattle.jl_model.proofs.KnownLemmas.{Known, known-nominal, known_nominal}
use Rattle.jl_model.proofs.PutLemmas.{and_l, and_r, both_true}
use Rattle.jl_model.proofs.TypeInduction.{Each}
use Rattle.jl_types.proofs.GivenLemmas.{given-nominal}
use Rattle.jl_types.proofs.PartsLemmas.{closed_parts, closed-any}
use Rattle.jl_sig.specs.Fit.{IsFit, IsFitArgument}
use Rattle.jl_sig.specs.Forms.{AreKnown, AreFormed, HasOutside, HasTooLargeGiven}
use Rattle.jl_sig.proofs.FitLemmas.{argument-union, argument-tuple}
use Rattle.jl_match.proofs.MakeLemmas.{outside_kept, outside_written}
use Rattle.jl_calculus.specs.Statics.{IsBroken, Breaks}
use Rattle.jl_operations.specs.Broken.{IsSettledAs, IsFirstOf}

module _ (ds : List Decl) where
  abbrev m : ℕ
  m = length ds

  pub closed_settled : (t u : Ty) → is_closed t ≡ true → IsNormalForm (table_of ds) t u → is_known m u ≡ true → IsSettledAs ds t u
  closed_settled t u c f k = (closed t u c f, k)

  all_arguments : (ts us : List Ty) → Both (IsSettledAs ds) ts us → AllArguments (table_of ds) ts us
  all_arguments ts us both_end = arguments_end
  all_arguments ts us (both_more t u vs ws p q) = arguments_more t u vs ws p.0 (all_arguments vs ws q)

  each_known : (ts us : List Ty) → Both (IsSettledAs ds) ts us → Each (Known m) us
  each_known ts us both_end = tt
  each_known ts us (both_more t u vs ws p q) = (p.1, each_known vs ws q)

  name_known : (k : ℕ) (ts : List Ty) → is_known m (V.Nominal k ts) ≡ true → nat_lt k m ≡ true
  name_known k ts h = and_l (nat_lt k m) (list_all (is_known m) ts) (sym (known-nominal m k ts) ∙ h)

  pub nominal_settled : (t : Ty) (k : ℕ) (ts vs us : List Ty) → t ≡ V.Nominal k ts → vs ≡ ts → is_closed t ≡ false → is_known m t ≡ true → Both (IsSettledAs ds) vs us → IsSettledAs ds t (V.Nominal k us)
  nominal_settled t k ts vs us e f c h b =
      let g = subst (λ z. Both (IsSettledAs ds) z us) f b in (
        with_arguments t (V.Nominal k us) k ts us c (ap out-Ty e ∙ outs-Nominal k ts) (outs-Nominal k us) (all_arguments ts us g),
        known_nominal m k us (name_known k ts (sym (ap (is_known m) e) ∙ h)) (each_known ts us g),
      )

  -- an argument with variables that is not nominal is a variable
  other_case : (t : Ty) (x : Ty-F Ty) → out-Ty t ≡ x → is_argument t ≡ true → is_closed t ≡ false → ((k : ℕ) (ts : List Ty) → t ≡ V.Nominal k ts → ⊥) → Argument (table_of ds) t t
  other_case t Any e p f h = absurd (let g : true ≡ false = sym (ap is_closed (is_any t e) ∙ closed-any) ∙ f in cc)
  other_case t (Union ts) e p f h =
      let i = is_union t ts e in
      absurd (let g : true ≡ false = sym p ∙ ap is_argument i ∙ argument-union ts ∙ sym (closed_parts.union_is ts) ∙ sym (ap is_closed i) ∙ f in cc)
  other_case t (Tuple ts) e p f h =
      let i = is_tuple t ts e in
      absurd (let g : true ≡ false = sym p ∙ ap is_argument i ∙ argument-tuple ts ∙ sym (closed_parts.tuple_is ts) ∙ sym (ap is_closed i) ∙ f in cc)
  other_case t (Nominal k ts) e p f h = absurd (h k ts (is_nominal t k ts e))
  other_case t (Var v) e p f h = variable t v e

  pub other_settled : (t c : Ty) → IsFitArgument ds t → is_closed t ≡ false → ((k : ℕ) (ts : List Ty) → t ≡ V.Nominal k ts → ⊥) → c ≡ t → IsSettledAs ds t c
  other_settled t c a f h e = subst (IsSettledAs ds t) (sym e) (other_case t (out-Ty t) refl a.placed f h, a.known)

  -- ---- one nominal type

  of_from : (k i : ℕ) (ts : List Ty) (a : Given) → Contains (given_from k i ts) a → k ≡ a.of
  of_from k i [] a c = absurd (omega (arith, c.1))
  of_from k i (t ∷ ts) a (zero, l, e) = ap (λ (g : Given). g.of) e
  of_from k i (t ∷ ts) a (suc j, l, e) = of_from k (i + 1) ts a (j, omega (arith, l), e)

  known_from : (k i : ℕ) (ts : List Ty) → list_all (is_known m) ts ≡ true → AreKnown ds (given_from k i ts)
  known_from k i [] h = refl
  known_from k i (t ∷ ts) h =
      both_true (is_known m t) (list_all (λ (a : Given). is_known m a.ty) (given_from k (i + 1) ts)) (and_l (is_known m t) (list_all (is_known m) ts) h) (known_from k (i + 1) ts (and_r (is_known m t) (list_all (is_known m) ts) h))

  pub own_known : (k : ℕ) (ts : List Ty) (gs : List Given) → gs ≡ given_from k 0 ts → IsFit ds (V.Nominal k ts) → AreKnown ds gs
  own_known k ts gs e f = subst (AreKnown ds) (sym e) (known_from k 0 ts (and_r (nat_lt k m) (list_all (is_known m) ts) (sym (known-nominal m k ts) ∙ f.known)))

  pub own_small : (k : ℕ) (ts : List Ty) (gs : List Given) → gs ≡ given_from k 0 ts → IsFit ds (V.Nominal k ts) → HasTooLargeGiven ds gs → ⊥
  own_small k ts gs e f (a, c, l) =
      let d = Contains-append_left (given_from k 0 ts) (flat_map given_in ts) a (subst (λ z. Contains z a) e c) in
      f.small a (subst (λ z. Contains z a) (sym (given-nominal k ts)) d) l.0 l.1

  module _ (declared : Declared ds) (k : ℕ) (ts : List Ty) (hs : List Given) (f : AreFormed ds (given_from k 0 ts) hs) where
    outside_broken : HasOutside ds hs → IsBroken ds (V.Nominal k ts)
    outside_broken h =
        let r = outside_written ds declared (given_from k 0 ts) hs f h in
        let e = of_from k 0 ts r.0 r.1 in
        subst (Breaks ds) (sym (outs-Nominal k ts)) (r.0, r.1, r.2.0, subst (λ (j : ℕ). Between (table_of ds) (get_or (params_of (slice_get ds j)) r.0.place free) r.0.ty → ⊥) (sym e) r.2.1)

    broken_outside : IsBroken ds (V.Nominal k ts) → HasOutside ds hs
    broken_outside b =
        let r : Breaks ds (Nominal k ts) = subst (Breaks ds) (outs-Nominal k ts) b in
        let e = of_from k 0 ts r.0 r.1 in
        outside_kept ds declared (given_from k 0 ts) hs f (r.0, r.1, (r.2, subst (λ (j : ℕ). Between (table_of ds) (get_or (params_of (slice_get ds j)) r.0.place free) r.0.ty → ⊥) e r.3))

    pub own_outside : (b : Bool) → (IsTrue b ↔ HasOutside ds hs) → IsTrue b ↔ IsBroken ds (V.Nominal k ts)
    own_outside b h = ((λ t. outside_broken (h.0 t)), (λ x. h.1 (broken_outside x)))

  -- it is not broken, or is told
  pub own_none : (k : ℕ) (ts : List Ty) (b : Bool) → (IsTrue b ↔ IsBroken ds (V.Nominal k ts)) → b ≡ false → IsFirstOf ds (V.Nominal k ts ∷ []) None
  own_none k ts b h e t (zero, l, i) x = let g : true ≡ false = sym (h.1 (subst (IsBroken ds) (sym i) x)) ∙ e in cc
  own_none k ts b h e t (suc j, l, i) x = absurd (omega (arith, l))

  pub own_some : (k : ℕ) (ts us : List Ty) (b : Bool) → (IsTrue b ↔ IsBroken ds (V.Nominal k ts)) → b ≡ true → IsFit ds (V.Nominal k ts) → Both (IsSettledAs ds) ts us → IsFirstOf ds (V.Nominal k ts ∷ []) (Some (V.Nominal k us))
  own_some k ts us b h e f s = (
    V.Nominal k ts,
    record { place = 0; there = refl; broken = h.0 e; first = λ i u l g x. absurd (omega (arith, l)) },
    named_type (V.Nominal k ts) (V.Nominal k us) k ts us (outs-Nominal k ts) (outs-Nominal k us) (all_arguments ts us s),
    known_nominal m k us (name_known k ts f.known) (each_known ts us s),
  )
