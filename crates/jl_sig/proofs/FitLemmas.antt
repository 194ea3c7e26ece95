-- What the code that keeps types needs.
use Rattle.std.proofs.Common.{◌≡◌, ◌∙◌, sym, ap, subst, refl, ℕ, zero, suc, ◌+◌, ◌<◌, arith, Bool, true, false, List, [], ◌∷◌, ◌++◌, length, drop, get_or, append-nil}
use Rattle.std.specs.List.{flat_map, list_all}
use Rattle.jl_model.specs.declared.ty.Ty.{Ty, out-Ty}
use Rattle.jl_model.specs.declared.ty.Ty.TheOpen.{Ty-F, Any, Union, Tuple, Nominal, Var}
use Rattle.jl_model.specs.declared.ty.Ty.TheViews.{outs-Any, outs-Union, outs-Tuple, outs-Nominal, outs-Var, rolls-Any, rolls-Union, rolls-Tuple, rolls-Nominal, rolls-Var}
use Rattle.jl_model.specs.declared.ty.Ty.TheViews as V
use Rattle.jl_model.specs.declared.ty.Ty.TheVariants as W
use Rattle.jl_model.specs.declared.ty.Ty.TheFolds.{para-roll-Ty}
use Rattle.jl_model.specs.declared.ty.Decl.{Decl}
use Rattle.jl_model.specs.Ancestors.{table_of}
use Rattle.jl_model.specs.Signature.{Both, both_end}
use Rattle.jl_model.specs.Normal.{IsNormalForm, var as normal_var}
use Rattle.jl_model.specs.Valid.{is_closed}
use Rattle.jl_model.specs.Refusals.{Given, given_in, given_from}
use Rattle.jl_model.specs.SigRefusals.{is_argument, argument_step, is_component, component_step}
use Rattle.jl_model.proofs.TypeInduction.{Each}
use Rattle.jl_model.proofs.FormLemmas.{is_any, is_union, is_tuple, is_nominal, all_firsts, all_seconds}
use Rattle.jl_model.proofs.AncestorLemmas.{true_each}
use Rattle.jl_model.proofs.SelfLemmas.{equal_self}
use Rattle.jl_model.proofs.KnownLemmas.{Known, union_known, tuple_known, nominal_known}
use Rattle.jl_types.proofs.KeepLemmas.{nominal_form}
use Rattle.jl_types.proofs.PartsLemmas.{closed-any, closed-union, closed-tuple}
use Rattle.jl_sig.specs.Fit.{IsSmall, IsFit, IsFitArgument, AllFit, AllFitArguments}
use Rattle.jl_types.proofs.GivenLemmas.{AllGiven, given-union, given-tuple, given-nominal, given_left, given_right, given_each}

-- places, form by form
pub argument-union : (ts : List Ty) → is_argument (V.Union ts) ≡ list_all is_closed ts
argument-union ts = ap is_argument (sym (rolls-Union ts)) ∙ para-roll-Ty Bool argument_step (Union ts) ∙ all_firsts is_argument is_closed ts

pub argument-tuple : (ts : List Ty) → is_argument (V.Tuple ts) ≡ list_all is_closed ts
argument-tuple ts = ap is_argument (sym (rolls-Tuple ts)) ∙ para-roll-Ty Bool argument_step (Tuple ts) ∙ all_firsts is_argument is_closed ts

pub argument-nominal : (k : ℕ) (ts : List Ty) → is_argument (V.Nominal k ts) ≡ list_all is_argument ts
argument-nominal k ts = ap is_argument (sym (rolls-Nominal k ts)) ∙ para-roll-Ty Bool argument_step (Nominal k ts) ∙ all_seconds is_argument ts

pub argument-any : is_argument W.Any ≡ true
argument-any = ap is_argument (sym rolls-Any) ∙ para-roll-Ty Bool argument_step Any

pub argument-var : (v : ℕ) → is_argument (W.Var v) ≡ true
argument-var v = ap is_argument (sym (rolls-Var v)) ∙ para-roll-Ty Bool argument_step (Var v)

pub component-any : is_component W.Any ≡ true
component-any = ap is_component (sym rolls-Any) ∙ para-roll-Ty Bool component_step Any

pub component-var : (v : ℕ) → is_component (W.Var v) ≡ true
component-var v = ap is_component (sym (rolls-Var v)) ∙ para-roll-Ty Bool component_step (Var v)

pub component-union : (ts : List Ty) → is_component (V.Union ts) ≡ list_all is_component ts
component-union ts = ap is_component (sym (rolls-Union ts)) ∙ para-roll-Ty Bool component_step (Union ts) ∙ all_seconds is_component ts

pub component-tuple : (ts : List Ty) → is_component (V.Tuple ts) ≡ list_all is_component ts
component-tuple ts = ap is_component (sym (rolls-Tuple ts)) ∙ para-roll-Ty Bool component_step (Tuple ts) ∙ all_seconds is_component ts

pub component-nominal : (k : ℕ) (ts : List Ty) → is_component (V.Nominal k ts) ≡ list_all is_argument ts
component-nominal k ts = ap is_component (sym (rolls-Nominal k ts)) ∙ para-roll-Ty Bool component_step (Nominal k ts) ∙ all_firsts is_component is_argument ts

module _ (ds : List Decl) where
  abbrev m : ℕ
  m = length ds

  abbrev pub S : Given → Type 0
  S a = IsSmall ds a.ty

  join_fit : (ts : List Ty) → Each (Known m) ts → Each (λ t. is_component t ≡ true) ts → Each (λ t. AllGiven S (given_in t)) ts → AllFit ds ts
  join_fit [] k p g = tt
  join_fit (t ∷ ts) k p g = (record { known = k.0; placed = p.0; small = g.0 }, join_fit ts k.1 p.1 g.1)

  join_arguments : (ts : List Ty) → Each (Known m) ts → Each (λ t. is_argument t ≡ true) ts → Each (IsSmall ds) ts → Each (λ t. AllGiven S (given_in t)) ts → AllFitArguments ds ts
  join_arguments [] k p o g = tt
  join_arguments (t ∷ ts) k p o g = (record { known = k.0; placed = p.0; own = o.0; small = g.0 }, join_arguments ts k.1 p.1 o.1 g.1)

  small_each : (k j : ℕ) (ts : List Ty) → AllGiven S (given_from k j ts) → Each (IsSmall ds) ts
  small_each k j [] g = tt
  small_each k j (t ∷ ts) g = (g (record { of = k; place = j; ty = t }) (zero, omega arith, refl), small_each k (j + 1) ts (λ a c. g a (suc c.0, omega (arith, c.1), c.2)))

  pub union_fit : (ts : List Ty) → IsFit ds (V.Union ts) → AllFit ds ts
  union_fit ts f =
      join_fit ts (union_known m ts f.known) (true_each is_component ts (sym (component-union ts) ∙ f.placed)) (given_each S ts (subst (AllGiven S) (given-union ts) f.small))

  pub tuple_fit : (ts : List Ty) → IsFit ds (V.Tuple ts) → AllFit ds ts
  tuple_fit ts f =
      join_fit ts (tuple_known m ts f.known) (true_each is_component ts (sym (component-tuple ts) ∙ f.placed)) (given_each S ts (subst (AllGiven S) (given-tuple ts) f.small))

  inner_fit : (k : ℕ) (ts : List Ty) → Known m (V.Nominal k ts) → list_all is_argument ts ≡ true → AllGiven S (given_in (V.Nominal k ts)) → AllFitArguments ds ts
  inner_fit k ts n p s =
      let g = subst (AllGiven S) (given-nominal k ts) s in
      join_arguments ts (nominal_known m k ts n).1 (true_each is_argument ts p) (small_each k 0 ts (given_left S (given_from k 0 ts) (flat_map given_in ts) g))
      (given_each S ts (given_right S (given_from k 0 ts) (flat_map given_in ts) g))

  pub nominal_fit : (t : Ty) (k : ℕ) (ts us : List Ty) → t ≡ V.Nominal k ts → us ≡ ts → IsFit ds t → AllFitArguments ds us
  nominal_fit t k ts us e f h =
      let g = subst (IsFit ds) e h in
      subst (AllFitArguments ds) (sym f) (inner_fit k ts g.known (sym (component-nominal k ts) ∙ g.placed) g.small)

  pub argument_fit : (t : Ty) (k : ℕ) (ts us : List Ty) → t ≡ V.Nominal k ts → us ≡ ts → IsFitArgument ds t → AllFitArguments ds us
  argument_fit t k ts us e f h =
      let g = subst (IsFitArgument ds) e h in
      subst (AllFitArguments ds) (sym f) (inner_fit k ts g.known (sym (argument-nominal k ts) ∙ g.placed) g.small)

  pub members_fit : (t : Ty) (ts us : List Ty) → t ≡ V.Union ts → us ≡ ts → IsFit ds t → AllFit ds us
  members_fit t ts us e f h = subst (AllFit ds) (sym f) (union_fit ts (subst (IsFit ds) e h))

  pub parts_fit : (t : Ty) (ts us : List Ty) → t ≡ V.Tuple ts → us ≡ ts → IsFit ds t → AllFit ds us
  parts_fit t ts us e f h = subst (AllFit ds) (sym f) (tuple_fit ts (subst (IsFit ds) e h))

  pub fit_at : (ts : List Ty) (i : ℕ) (t : Ty) → AllFit ds ts → i < length ts → t ≡ get_or ts i t → IsFit ds t
  fit_at [] i t f l e = absurd (omega arith)
  fit_at (x ∷ xs) zero t f l e = subst (IsFit ds) (sym e) f.0
  fit_at (x ∷ xs) (suc i) t f l e = fit_at xs i t f.1 (omega arith) e

  pub argument_at : (ts : List Ty) (i : ℕ) (t : Ty) → AllFitArguments ds ts → i < length ts → t ≡ get_or ts i t → IsFitArgument ds t
  argument_at [] i t f l e = absurd (omega arith)
  argument_at (x ∷ xs) zero t f l e = subst (IsFitArgument ds) (sym e) f.0
  argument_at (x ∷ xs) (suc i) t f l e = argument_at xs i t f.1 (omega arith) e

  -- an open argument that is not nominal is a variable
  other_case : (t : Ty) (x : Ty-F Ty) → out-Ty t ≡ x → is_argument t ≡ true → is_closed t ≡ false → ((k : ℕ) (ts : List Ty) → t ≡ V.Nominal k ts → ⊥) → IsNormalForm (table_of ds) t t
  other_case t Any e p f h = absurd (let g : true ≡ false = sym (ap is_closed (is_any t e) ∙ closed-any) ∙ f in cc)
  other_case t (Union ts) e p f h =
      let i = is_union t ts e in
      absurd (let g : true ≡ false = sym p ∙ ap is_argument i ∙ argument-union ts ∙ sym (closed-union ts) ∙ sym (ap is_closed i) ∙ f in cc)
  other_case t (Tuple ts) e p f h =
      let i = is_tuple t ts e in
      absurd (let g : true ≡ false = sym p ∙ ap is_argument i ∙ argument-tuple ts ∙ sym (closed-tuple ts) ∙ sym (ap is_closed i) ∙ f in cc)
  other_case t (Nominal k ts) e p f h = absurd (h k ts (is_nominal t k ts e))
  other_case t (Var v) e p f h = record { normal = normal_var t v e; equal = equal_self (table_of ds) t }

  pub other_form : (t c : Ty) → IsFitArgument ds t → is_closed t ≡ false → ((k : ℕ) (ts : List Ty) → t ≡ V.Nominal k ts → ⊥) → c ≡ t → IsNormalForm (table_of ds) t c
  other_form t c a f h e = subst (IsNormalForm (table_of ds) t) (sym e) (other_case t (out-Ty t) refl a.placed f h)

  pub nominal_kept : (t : Ty) (k : ℕ) (ts us vs : List Ty) → t ≡ V.Nominal k ts → us ≡ ts → Both (IsNormalForm (table_of ds)) us vs → IsNormalForm (table_of ds) t (V.Nominal k vs)
  nominal_kept t k ts us vs e f b =
      subst (λ z. IsNormalForm (table_of ds) z (V.Nominal k vs)) (sym e) (nominal_form (table_of ds) k ts vs (subst (λ z. Both (IsNormalForm (table_of ds)) z vs) f b))

pub both_done : (R : Ty → Ty → Type 0) (ts items : List Ty) (i : ℕ) → drop i ts ≡ [] → ((us : List Ty) → Both R (drop i ts) us → Both R ts (items ++ us)) → Both R ts items
both_done R ts items i e k = subst (Both R ts) (append-nil items) (k [] (subst (λ z. Both R z []) (sym e) both_end))
