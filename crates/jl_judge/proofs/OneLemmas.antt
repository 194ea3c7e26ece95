-- Tests that are right are one.
use Rattle.std.proofs.Common.{◌≡◌, ◌∙◌, sym, refl, ℕ, ◌<◌, ◌≤◌, arith, Bool, true, false, nat_lt, List, length, slice_get}
use Rattle.std.specs.List.{flat_map, list_all}
use Rattle.jl_model.specs.declared.ty.Ty.{Ty}
use Rattle.jl_model.specs.declared.ty.Decl.{Decl}
use Rattle.jl_model.specs.declared.ty.Written.{Written}
use Rattle.jl_model.specs.Rows.{vars_in}
use Rattle.jl_model.specs.SigRefusals.{types_in, TypeLimit}
use Rattle.jl_program.specs.BodyTypes.{fields_signature}
use Rattle.jl_sig.specs.Prepared.{HasOwnVariables}
use Rattle.jl_resolve_forms.specs.TypesIn.{Tests}
use Rattle.jl_judge.specs.Right.{IsJudgedBelow, NamesDeclared, IsRight}
use Rattle.jl_judge.specs.Tests.{names_declared}
use Rattle.jl_judge.proofs.AnswerLemmas.{sig_only, body_only}
use Rattle.jl_judge.proofs.TellLemmas.{told_same}
use Rattle.jl_judge.proofs.TestLemmas.{not_both}

-- each question is inside or outside
by_test : {A : Type 0} (b : Bool) → (b ≡ true → A) → (b ≡ false → A) → A
by_test true f g = f refl
by_test false f g = g refl

module _ (ds : List Decl) (t u : Tests) (right : IsRight ds t) (also : IsRight ds u) where
  one_below : (low high : Ty) → t.below low high ≡ u.below low high
  one_below low high = told_same (IsJudgedBelow ds low high) (t.below low high) (u.below low high) (right.below low high) (also.below low high)

  signature_outside : (s : Written) → (HasOwnVariables s × NamesDeclared ds s → ⊥) → t.signature s ≡ u.signature s
  signature_outside s out = right.foreign s out ∙ sym (also.foreign s out)

  one_signature : (s : Written) → t.signature s ≡ u.signature s
  one_signature s =
      let own : Bool = list_all (λ v. nat_lt v (length s.vars)) (flat_map vars_in (types_in s)) in
      by_test own
      (λ e. by_test (names_declared ds s) (λ f. sig_only ds s (t.signature s) (u.signature s) (right.signature s e f) (also.signature s e f)) (λ f. signature_outside s (λ h. not_both (names_declared ds s) h.1 f)))
      (λ e. signature_outside s (λ h. not_both own h.0 e))

  one_body : (s : Written) → t.body s ≡ u.body s
  one_body s =
      by_test (names_declared ds s) (λ f. body_only ds s (t.body s) (u.body s) (right.body s f) (also.body s f))
      (λ f. let out : NamesDeclared ds s → ⊥ = λ h. not_both (names_declared ds s) h f in right.unknown s out ∙ sym (also.unknown s out))

  one_wide : (p : ℕ) → t.wide p ≡ u.wide p
  one_wide p =
      by_test (nat_lt p (length ds))
      (λ e. let l : p < length ds = grind (arith, e) in told_same (TypeLimit ds (fields_signature (slice_get ds p))) (t.wide p) (u.wide p) (right.wide p l) (also.wide p l))
      (λ e. let l : length ds ≤ p = grind (arith, e) in right.absent p l ∙ sym (also.absent p l))

  pub one_tests : t ≡ u
  one_tests = λ i. record {
    below = λ low high. one_below low high i;
    signature = λ s. one_signature s i;
    body = λ s. one_body s i;
    wide = λ p. one_wide p i;
  }
