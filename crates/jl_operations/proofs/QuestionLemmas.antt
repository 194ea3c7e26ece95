-- What `isa` and `<:` answer.
use Rattle.std.proofs.Common.{◌≡◌, ◌∙◌, sym, ap, subst, refl, ℕ, zero, suc, ◌⊎◌, inl, inr, ◌↔◌, arith, Bool, true, false, IsTrue, List, [], ◌∷◌, ◌++◌, Option, None, Some, slice_get, append_assoc}
use Rattle.std.specs.List.{flat_map, Contains}
use Rattle.std.specs.Option.{is_some}
use Rattle.std.proofs.lemmas.List.Elements.{Contains-append_left, Contains-append_right, Contains-append_cases}
use Rattle.jl_model.specs.declared.ty.Ty.{Ty}
use Rattle.jl_model.specs.declared.ty.Decl.{Decl}
use Rattle.jl_model.specs.declared.ty.Written.{Written}
use Rattle.jl_model.specs.Ancestors.{table_of}
use Rattle.jl_model.specs.Refusals.{Declared, bound_types}
use Rattle.jl_model.specs.Signature.{Applicable, SigBelow}
use Rattle.jl_model.specs.SigRefusals.{TypeLimit, BoundBroken, IsAllowedSig}
use Rattle.jl_program.specs.declared.fault.Fault.{Fault}
use Rattle.jl_program.specs.declared.fault.Fault.TheVariants as F
use Rattle.jl_program.specs.declared.tree.Program.{Program}
use Rattle.jl_program.specs.declared.value.Value.{Value}
use Rattle.jl_program.specs.declared.value.Value.TheVariants as V
use Rattle.jl_program.specs.Meaning.{datum}
use Rattle.jl_program.specs.Scope.{all_types}
use Rattle.jl_program.specs.TypeOf.{type_of}
use Rattle.jl_program.specs.ValidValue.{IsValueType, IsValid}
use Rattle.jl_value.proofs.KeptLemmas.{kept_is, value_type}
use Rattle.jl_sig.specs.declared.sig.Sig.{Sig}
use Rattle.jl_sig.specs.Fit.{AllFit}
use Rattle.jl_sig.specs.SigParts.{written_of}
use Rattle.jl_match.specs.SigRefused.{IsMade}
use Rattle.jl_match.specs.KeptRow.{AreConcrete}
use Rattle.jl_match.proofs.ArgumentTypes.{no_arguments, one_argument}
use Rattle.jl_calculus.specs.declared.history.Outcome.{Outcome}
use Rattle.jl_calculus.specs.declared.history.Outcome.TheVariants as O
use Rattle.jl_calculus.specs.Answers.{Answer}
use Rattle.jl_calculus.specs.Laws.{HasBroken}
use Rattle.jl_calculus.specs.Operations.{with_type}
use Rattle.jl_calculus.specs.Statics.{nominals_in, nominals_of, is_bad_parameter}
use Rattle.jl_calculus.specs.ValidHistory.{IsValidOutcome}
use Rattle.jl_calculus.proofs.BrokenLemmas.{one_broken, broken_once}
use Rattle.jl_operations.specs.Bodies.{IsBodySig, IsKeptAs}
use Rattle.jl_operations.specs.declared.written.Kept.{Kept}
use Rattle.jl_operations.specs.declared.written.Kept.TheVariants as K
use Rattle.jl_operations.specs.Broken.{IsNamed}
use Rattle.jl_operations.specs.Questions.{isa_of, order_of}
use Rattle.jl_operations.proofs.BrokenLemmas.{parts_fit, bounds_fit, fit_both}

-- a fault that names a type of the table is valid
pub named_valid : (P : Program) (e : Fault) → IsNamed (all_types P) e → IsValidOutcome P (O.Error e)
named_valid P e (u, i, k) = subst (λ (z : Fault). IsValidOutcome P (O.Error z)) (sym i) k

-- ---- what was kept of a type

module _ (ds : List Decl) (s : Written) where
  kept_sig : (k : Kept) (g : Sig) → IsKeptAs ds s k → k ≡ K.Sig g → IsMade ds s g
  kept_sig k g h e = subst (IsKeptAs ds s) e h

  pub kept_large : (k : Kept) → IsKeptAs ds s k → k ≡ K.TooLarge → TypeLimit ds s
  kept_large k h e = subst (IsKeptAs ds s) e h

  pub kept_small : (k : Kept) → IsKeptAs ds s k → (k ≡ K.TooLarge → ⊥) → TypeLimit ds s → ⊥
  kept_small (K.Sig g) h n l = h.allowed.small l
  kept_small K.TooLarge h n l = n refl
  kept_small K.Broken h n l = h.0 l

  pub kept_broken : (k : Kept) → IsKeptAs ds s k → (k ≡ K.TooLarge → ⊥) → ((g : Sig) → k ≡ K.Sig g → ⊥) → BoundBroken ds s
  kept_broken (K.Sig g) h n m = absurd (m g refl)
  kept_broken K.TooLarge h n m = absurd (n refl)
  kept_broken K.Broken h n m = h.1

  pub kept_allowed : (k : Kept) (g : Sig) → IsKeptAs ds s k → k ≡ K.Sig g → IsAllowedSig ds s
  kept_allowed k g h e = (kept_sig k g h e).allowed

  pub kept_own : (k : Kept) (g : Sig) → IsKeptAs ds s k → k ≡ K.Sig g → IsMade ds (written_of g) g
  kept_own k g h e =
      let m = kept_sig k g h e in
      record { allowed = subst (IsAllowedSig ds) (sym m.written) m.allowed; written = refl; kept = m.kept }

  pub kept_written : (k : Kept) (g : Sig) → IsKeptAs ds s k → k ≡ K.Sig g → written_of g ≡ s
  kept_written k g h e = (kept_sig k g h e).written

-- ---- refusals of one type

slice_contains : (ts : List Ty) (i : ℕ) (t : Ty) → slice_get ts i ≡ Some t → Contains ts t
slice_contains [] i t e = cc
slice_contains (u ∷ ts) zero t e = let z : u ≡ t = cc in (zero, omega arith, z)
slice_contains (u ∷ ts) (suc i) t e = let c = slice_contains ts i t e in (suc c.0, omega (arith, c.1), c.2)

module _ (ds : List Decl) where
  one_bad : (ts : List Ty) (e : Fault) → is_bad_parameter ds ts e → HasBroken ds ts
  one_bad ts e (t, u, h, s, i) = (t, slice_contains ts h.place t h.there, h.broken)

  none_bad : (s : Written) → (BoundBroken ds s → ⊥) → (e : Fault) → is_bad_parameter ds (nominals_of s) e → ⊥
  none_bad s n e h = n (broken_once ds s (one_bad (nominals_of s) e h))

  pub type_limit : (s : Written) (rest : Answer) → TypeLimit ds s → with_type ds s rest (O.Error F.TypeLimit)
  type_limit s rest h = inl (F.TypeLimit, (refl, h), refl)

  pub type_broken : (s : Written) (rest : Answer) (e : Fault) → (TypeLimit ds s → ⊥) → is_bad_parameter ds (nominals_of s) e → with_type ds s rest (O.Error e)
  type_broken s rest e n h = inr ((λ f k. n k.1), inl (e, h, refl))

  pub type_allowed : (s : Written) (rest : Answer) (o : Outcome) → IsAllowedSig ds s → rest o → with_type ds s rest o
  type_allowed s rest o a h = inr ((λ f k. a.small k.1), inr (none_bad s a.within, h))

  -- ---- `isa`

  found_told : {A : Type 0} (o : Option A) (P : Type 0) (b : Bool) → ((x : A) → o ≡ Some x → P) → (o ≡ None → P → ⊥) → b ≡ is_some o → IsTrue b ↔ P
  found_told None P b f n e = ((λ h. absurd (let g : false ≡ true = sym e ∙ h in cc)), (λ p. absurd (n refl p)))
  found_told (Some x) P b f n e = ((λ h. f x refl), (λ p. e))

  isa_told : (s : Written) (v : Value) {A : Type 0} (o : Option A) (b : Bool) → IsAllowedSig ds s
      → ((x : A) → o ≡ Some x → Applicable (table_of ds) s (type_of v ∷ [])) → (o ≡ None → Applicable (table_of ds) s (type_of v ∷ []) → ⊥) → b ≡ is_some o → isa_of ds v s (O.Value (V.Bool b))
  isa_told s v o b a p n i =
      let P = Applicable (table_of ds) s (type_of v ∷ []) in
      inr ((λ f k. a.small k.1), inr (none_bad s a.within, (b, found_told o P b p n i, refl)))

  pub isa_answer : (es : List Decl) (s : Written) (v : Value) (ts : List Ty) {A : Type 0} (o : Option A) (b : Bool) (r : Outcome) → es ≡ ds → ts ≡ type_of v ∷ [] → IsAllowedSig ds s
      → ((x : A) → o ≡ Some x → Applicable (table_of es) s ts) → (o ≡ None → Applicable (table_of es) s ts → ⊥) → b ≡ is_some o → r ≡ O.Value (V.Bool b) → isa_of ds v s r
  isa_answer es s v ts {A} o b r e f a p n i j =
      let p2 = subst (λ z. (x : A) → o ≡ Some x → Applicable (table_of z) s (type_of v ∷ [])) e (subst (λ z. (x : A) → o ≡ Some x → Applicable (table_of es) s z) f p) in
      let n2 = subst (λ z. o ≡ None → Applicable (table_of z) s (type_of v ∷ []) → ⊥) e (subst (λ z. o ≡ None → Applicable (table_of es) s z → ⊥) f n) in
      subst (isa_of ds v s) (sym j) (isa_told s v o b a p2 n2 i)

  pub one_concrete : Declared ds → (v : Value) (t u : Ty) (ts : List Ty) → IsValid ds (datum v) → u ≡ t → t ≡ type_of v → ts ≡ u ∷ [] → AreConcrete ds ts
  one_concrete declared v t u ts h e f g =
      let k = value_type ds declared (datum v) h in
      let i = kept_is v ∙ sym f ∙ sym e in
      let w = subst (IsValueType ds) i k in
      one_argument ds [] ts u (no_arguments ds) w.normal w.valid.known w.closed w.concrete g

  -- ---- `<:`

  none_bad_pair : (s t : Written) → (BoundBroken ds s → ⊥) → (BoundBroken ds t → ⊥) → (e : Fault) → is_bad_parameter ds (nominals_of s ++ nominals_of t) e → ⊥
  none_bad_pair s t n k e h = by (Contains-append_cases (nominals_of s) (nominals_of t) b.0 b.1)
    where
      b : HasBroken ds (nominals_of s ++ nominals_of t)
      b = one_bad (nominals_of s ++ nominals_of t) e h

      by : Contains (nominals_of s) b.0 ⊎ Contains (nominals_of t) b.0 → ⊥
      by (inl c) = n (broken_once ds s (b.0, c, b.2))
      by (inr c) = k (broken_once ds t (b.0, c, b.2))

  order_told : (s t : Written) (b : Bool) → IsAllowedSig ds s → IsAllowedSig ds t → (IsTrue b ↔ SigBelow (table_of ds) s t) → order_of ds s t (O.Value (V.Bool b))
  order_told s t b f g h = inr ((λ e k. elim k.1 [ inl l ↦ f.small l | inr l ↦ g.small l ]), inr (none_bad_pair s t f.within g.within, (b, h, refl)))

  pub order_answer : (es : List Decl) (s t : Written) (b : Bool) (r : Outcome) → es ≡ ds → IsAllowedSig ds s → IsAllowedSig ds t → (IsTrue b ↔ SigBelow (table_of es) s t) → r ≡ O.Value (V.Bool b) → order_of ds s t r
  order_answer es s t b r e f g h i = subst (order_of ds s t) (sym i) (order_told s t b f g (subst (λ z. IsTrue b ↔ SigBelow (table_of z) s t) e h))

  pub order_left : (s t : Written) → TypeLimit ds s → order_of ds s t (O.Error F.TypeLimit)
  order_left s t h = inl (F.TypeLimit, (refl, inl h), refl)

  pub order_right : (s t : Written) → TypeLimit ds t → order_of ds s t (O.Error F.TypeLimit)
  order_right s t h = inl (F.TypeLimit, (refl, inr h), refl)

  pub order_broken : (s t : Written) (e : Fault) → (TypeLimit ds s → ⊥) → (TypeLimit ds t → ⊥) → is_bad_parameter ds (nominals_of s ++ nominals_of t) e → order_of ds s t (O.Error e)
  order_broken s t e n k h = inr ((λ f l. elim l.1 [ inl a ↦ n a | inr a ↦ k a ]), inl (e, h, refl))

  -- ---- the types of a signature

  flat_both : (xs ys : List Ty) → flat_map nominals_in (xs ++ ys) ≡ flat_map nominals_in xs ++ flat_map nominals_in ys
  flat_both [] ys = refl
  flat_both (x ∷ xs) ys = ap (λ z. nominals_in x ++ z) (flat_both xs ys) ∙ sym (append_assoc (nominals_in x) (flat_map nominals_in xs) (flat_map nominals_in ys))

  abbrev pub listed : Written → List Ty
  listed s = s.parts ++ bound_types s.vars

  module _ (declared : Declared ds) where
    listed_fit : (s : Written) → IsBodySig ds s → (TypeLimit ds s → ⊥) → AllFit ds (listed s)
    listed_fit s b n = fit_both ds s.parts (bound_types s.vars) (parts_fit ds declared s b.known b.written.placed n) (bounds_fit ds declared s b.known b.written.placed n)

    pub one_fit : (s : Written) (ts : List Ty) → ts ≡ listed s → IsBodySig ds s → (TypeLimit ds s → ⊥) → AllFit ds ts
    one_fit s ts e b n = subst (AllFit ds) (sym e) (listed_fit s b n)

    pub pair_fit : (s t : Written) (ts : List Ty) → ts ≡ listed s ++ listed t → IsBodySig ds s → IsBodySig ds t → (TypeLimit ds s → ⊥) → (TypeLimit ds t → ⊥) → AllFit ds ts
    pair_fit s t ts e b c n k = subst (AllFit ds) (sym e) (fit_both ds (listed s) (listed t) (listed_fit s b n) (listed_fit t c k))

  pub one_has : (s : Written) (ts : List Ty) → ts ≡ listed s → BoundBroken ds s → HasBroken ds (flat_map nominals_in ts)
  one_has s ts e b = subst (λ z. HasBroken ds (flat_map nominals_in z)) (sym e) (one_broken ds s b)

  pair_broken : (s t : Written) → BoundBroken ds s ⊎ BoundBroken ds t → HasBroken ds (nominals_of s ++ nominals_of t)
  pair_broken s t (inl b) = let r = one_broken ds s b in (r.0, Contains-append_left (nominals_of s) (nominals_of t) r.0 r.1, r.2)
  pair_broken s t (inr b) = let r = one_broken ds t b in (r.0, Contains-append_right (nominals_of s) (nominals_of t) r.0 r.1, r.2)

  pair_is : (s t : Written) (ts : List Ty) → ts ≡ listed s ++ listed t → flat_map nominals_in ts ≡ nominals_of s ++ nominals_of t
  pair_is s t ts e = ap (flat_map nominals_in) e ∙ flat_both (listed s) (listed t)

  pub pair_has : (s t : Written) (ts : List Ty) → ts ≡ listed s ++ listed t → BoundBroken ds s ⊎ BoundBroken ds t → HasBroken ds (flat_map nominals_in ts)
  pair_has s t ts e b = subst (HasBroken ds) (sym (pair_is s t ts e)) (pair_broken s t b)

  pub one_fault : (s : Written) (ts : List Ty) (e : Fault) → ts ≡ listed s → is_bad_parameter ds (flat_map nominals_in ts) e → is_bad_parameter ds (nominals_of s) e
  one_fault s ts e f h = subst (λ z. is_bad_parameter ds (flat_map nominals_in z) e) f h

  pub pair_fault : (s t : Written) (ts : List Ty) (e : Fault) → ts ≡ listed s ++ listed t → is_bad_parameter ds (flat_map nominals_in ts) e → is_bad_parameter ds (nominals_of s ++ nominals_of t) e
  pair_fault s t ts e f h = subst (λ z. is_bad_parameter ds z e) (pair_is s t ts f) h
