-- A method that precedes all others is the choice.
use Rattle.std.proofs.Common.{◌≡◌, ◌∙◌, sym, subst, refl, ℕ, ◌<◌, inl, inr, arith, List, length, get_or}
use Rattle.std.specs.List.{Contains}
use Rattle.jl_model.specs.declared.ty.Ty.{Ty}
use Rattle.jl_model.specs.Choice as M
use Rattle.jl_model.specs.Signature.{Applicable}
use Rattle.jl_model.specs.Subtype.{Table}
use Rattle.jl_sig.specs.SigParts.{written_of}
use Rattle.jl_subsig.specs.declared.choice.Method.{Method}
use Rattle.jl_subsig.specs.Side.{Every}
use Rattle.jl_subsig.specs.Decide.{method_in, methods_in, nothing}
use Rattle.jl_subsig.specs.Preceding.{Precedes}
use Rattle.jl_subsig.proofs.CompareLemmas.{method-at, methods_long}
use Rattle.jl_subsig.proofs.PlaceLemmas.{in_range, every_at}

module _ (n : Table) (ms : List Method) (m : M.Method) where
  precedes_each : Every (λ (o : Method). Precedes n m (method_in o)) ms → (o : M.Method) → Contains (methods_in ms) o → Precedes n m o
  precedes_each h o (k, l, e) =
      let w = methods_long ms in
      subst (Precedes n m) (sym (in_range (methods_in ms) k o nothing l) ∙ e) (every_at (Precedes n m) ms h k (omega (arith, l, w)))

  -- an earlier one of the same signature is replaced by it, and each other candidate is one that it is strictly below
  best : (ts : List Ty) → M.Applies n (methods_in ms) ts m → ((o : M.Method) → Contains (methods_in ms) o → Precedes n m o) → M.IsBest n (methods_in ms) ts m
  best ts here all = record {
    candidate = record {
      applies = here;
      last = λ l a less same. elim (all l a.stands) [
        | inl e ↦ absurd (omega (arith, less, e))
        | inr (b, r) ↦ elim r [ inl k ↦ absurd (omega (arith, less, k)) | inr not_up ↦ not_up same.1 ]
      ];
    };
    below = λ c k other. elim (all c k.applies.stands) [
      | inl e ↦ absurd (other e)
      | inr (b, r) ↦ (b, λ up. elim r [ inl less ↦ k.last m here less (up, b) | inr not_up ↦ not_up up ])
    ];
  }

-- the one at a place is the choice where it precedes each
pub chosen_at : (n : Table) (ms : List Method) (i : ℕ) (m : Method) → i < length ms → m ≡ get_or ms i m → (ts : List Ty) → Every (λ (o : Method). Applicable n (written_of o.sig.now) ts) ms
    → Every (λ (o : Method). Precedes n (method_in m) (method_in o)) ms → M.ChoosesMethod n (methods_in ms) ts m.number
chosen_at n ms i m l is ts a h =
    let w = methods_long ms in
    let e = method-at ms i m l is in
    let stands : Contains (methods_in ms) (method_in m) = (i, omega (arith, l, w), in_range (methods_in ms) i (method_in m) nothing (omega (arith, l, w)) ∙ sym e) in
    let below : Applicable n (method_in m).sig ts = subst (λ (z : M.Method). Applicable n z.sig ts) (sym e) (every_at (λ (z : M.Method). Applicable n z.sig ts) ms a i l) in
    (method_in m, best n ms (method_in m) ts (record { stands = stands; below = below }) (precedes_each n ms (method_in m) h), refl)
