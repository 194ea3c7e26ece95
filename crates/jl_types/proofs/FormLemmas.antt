-- What the code that makes forms needs.
use Rattle.std.proofs.Common.{max, ◌≡◌, ◌∙◌, sym, ap, subst, ℕ, zero, suc, ◌+◌, ◌<◌, ◌≤◌, arith, List, [], ◌∷◌, ◌++◌, length, drop, get_or, append_assoc, inl, inr}
use Rattle.jl_model.specs.declared.ty.Ty.{Ty}
use Rattle.jl_model.specs.declared.ty.Ty.TheViews.{size-Ty, outs-Any, outs-Union, outs-Tuple, outs-Nominal, outs-Var, out-Ty, sized-Nominal}
use Rattle.jl_model.specs.declared.ty.Ty.TheViews as V
use Rattle.jl_model.specs.declared.ty.Ty.TheVariants as W
use Rattle.jl_model.specs.Counts.{nodes}
use Rattle.jl_model.specs.Signature.{Both, both_end, both_more}
use Rattle.jl_types.specs.Ground.{tallest}
use Rattle.jl_types.specs.Form.{Settles, AllSettle, AllSmall, HasLarge, any, var, union, tuple, nominal, none, more}
use Rattle.jl_types.proofs.ReduceLemmas.{drop_is}
use Rattle.jl_types.proofs.GroundLemmas.{most-is}

-- one more in a loop over a list that gives a list with it one by one
pub both_step : (R : Ty → Ty → Type 0) (ts : List Ty) (i : ℕ) (t u : Ty) (old new : List Ty) → i < length ts → t ≡ get_or ts i t → R t u → new ≡ old ++ u ∷ []
    → ((us : List Ty) → Both R (drop i ts) us → Both R ts (old ++ us)) → (us : List Ty) → Both R (drop (i + 1) ts) us → Both R ts (new ++ us)
both_step R ts i t u old new lt e r s k us b =
    let P : List Ty → Type 0 = λ z. Both R z (u ∷ us) in
    subst (Both R ts) (sym (ap (λ z. z ++ us) s ∙ append_assoc old (u ∷ []) us)) (k (u ∷ us) (subst P (sym (drop_is ts i t lt e)) (both_more t u (drop (i + 1) ts) us r b)))

pub small_step : (ts : List Ty) (i : ℕ) (t : Ty) → i < length ts → t ≡ get_or ts i t → nodes t ≤ 1024 → AllSmall (drop (i + 1) ts) → AllSmall (drop i ts)
small_step ts i t lt e s h = subst AllSmall (sym (drop_is ts i t lt e)) (s, h)

pub large_at : (ts : List Ty) (i : ℕ) (t : Ty) → i < length ts → t ≡ get_or ts i t → 1024 < nodes t → HasLarge ts
large_at [] i t lt e h = absurd (omega arith)
large_at (x ∷ xs) zero t lt e h = let f : nodes t ≡ nodes x = ap nodes e in inl (omega arith)
large_at (x ∷ xs) (suc i) t lt e h = inr (large_at xs i t (omega arith) e h)

pub size-nominal : (u : Ty) (k : ℕ) (ts vs : List Ty) → u ≡ V.Nominal k ts → vs ≡ ts → size-Ty u ≡ tallest vs + 1
size-nominal u k ts vs e f =
    let m : max 0 (tallest ts) + 1 ≡ tallest ts + 1 = omega arith in
    ap (λ z. size-Ty z) e ∙ sized-Nominal k ts ∙ ap (λ j. max 0 j + 1) (most-is ts) ∙ m ∙ ap (λ z. tallest z + 1) (sym f)

-- the cases of settling
module _ (F : Ty → Ty → Type 0) where
  all_settle : (ts us : List Ty) → Both (Settles F) ts us → AllSettle F ts us
  all_settle ts us both_end = none
  all_settle ts us (both_more t u vs ws p b) = more t u vs ws p (all_settle vs ws b)

  pub settle_any : (t : Ty) → t ≡ W.Any → Settles F t W.Any
  settle_any t e = subst (λ z. Settles F z W.Any) (sym e) (any W.Any outs-Any)

  pub settle_var : (t : Ty) (v : ℕ) → t ≡ W.Var v → Settles F t (W.Var v)
  settle_var t v e = subst (λ z. Settles F z (W.Var v)) (sym e) (var (W.Var v) v (outs-Var v))

  pub settle_union : (t : Ty) (ts vs us : List Ty) → t ≡ V.Union ts → vs ≡ ts → Both (Settles F) vs us → Settles F t (V.Union us)
  settle_union t ts vs us e f b = union t (V.Union us) ts us (ap out-Ty e ∙ outs-Union ts) (outs-Union us) (all_settle ts us (subst (λ z. Both (Settles F) z us) f b))

  pub settle_tuple : (t : Ty) (ts vs us : List Ty) → t ≡ V.Tuple ts → vs ≡ ts → Both (Settles F) vs us → Settles F t (V.Tuple us)
  settle_tuple t ts vs us e f b = tuple t (V.Tuple us) ts us (ap out-Ty e ∙ outs-Tuple ts) (outs-Tuple us) (all_settle ts us (subst (λ z. Both (Settles F) z us) f b))

  pub settle_nominal : (t : Ty) (k : ℕ) (ts vs us : List Ty) → t ≡ V.Nominal k ts → vs ≡ ts → Both F vs us → Settles F t (V.Nominal k us)
  settle_nominal t k ts vs us e f b = nominal t (V.Nominal k us) k ts us (ap out-Ty e ∙ outs-Nominal k ts) (outs-Nominal k us) (subst (λ z. Both F z us) f b)

-- a list of one
pub single_list : (ts : List Ty) (t : Ty) → length ts ≡ 1 → t ≡ get_or ts 0 t → ts ≡ t ∷ []
single_list [] t l e = absurd (omega arith)
single_list (x ∷ []) t l e = ap (λ z. z ∷ []) (sym e)
single_list (x ∷ y ∷ ts) t l e = absurd (omega arith)
