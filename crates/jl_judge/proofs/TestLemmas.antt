-- The tests tell what they are for.
use Rattle.std.proofs.Common.{◌≡◌, ◌∙◌, sym, subst, refl, ℕ, ◌<◌, ◌≤◌, arith, Bool, true, false, ◌&&◌, cond, nat_lt, IsTrue, List, length, Option, None, slice_get}
use Rattle.jl_model.specs.declared.ty.Ty.{Ty}
use Rattle.jl_model.specs.declared.ty.Decl.{Decl}
use Rattle.jl_model.specs.declared.ty.Written.{Written}
use Rattle.jl_model.specs.Refusals.{Declared}
use Rattle.jl_model.specs.SigRefusals.{VariablePlace, UnusedVariable, TooManyParameters, WrongParameterCount, TypeLimit, BoundsCrossed, BoundBroken, IsAllowedSig}
use Rattle.jl_program.specs.BodyTypes.{fields_signature, without_statics, IsAllowedType}
use Rattle.jl_types.proofs.DecideLemmas.{Decided}
use Rattle.jl_sig.specs.Prepared.{HasOwnVariables}
use Rattle.jl_body.specs.TypeRefused.{BodyTypeLimit}
use Rattle.jl_written.specs.declared.fault.StaticKind.{StaticKind}
use Rattle.jl_judge.specs.Answers.{SigAnswer, BodyAnswer}
use Rattle.jl_judge.specs.Right.{IsJudgedBelow, NamesDeclared, IsRight}
use Rattle.jl_judge.specs.Tell.{Tells}
use Rattle.jl_judge.specs.Tests.{names_declared, is_well_named, holds, below_test, signature_refusal, signature_test, body_refusal, body_test, wide_test, all_tests}
use Rattle.jl_judge.proofs.TellLemmas.{test_tells, told_same}
use Rattle.jl_judge.specs.BelowDecided.{judged_below_decided}
use Rattle.jl_judge.specs.SigDecided.{place_decided, unused_decided, many_decided, count_decided, limit_decided, body_limit_decided, crossed_decided, broken_decided}
use Rattle.jl_judge.proofs.AnswerLemmas.{sig_answer, sig_only, body_answer, body_only}

both_true : (a b : Bool) → a ≡ true → b ≡ true → (a && b) ≡ true
both_true a b e f = rw (e, f) refl

both_of : (a b : Bool) → (a && b) ≡ true → (a ≡ true) × (b ≡ true)
both_of true b e = (refl, e)
both_of false b e = let f : false ≡ true = e in cc

pub not_both : (b : Bool) → b ≡ true → b ≡ false → ⊥
not_both b e f = let g : true ≡ false = sym e ∙ f in cc

-- where the names are right the answer stands, and else nothing does
under : {A : Type 0} (b : Bool) (x y z : A) → (b ≡ true → z ≡ x) → (b ≡ false → z ≡ y) → z ≡ cond b x y
under true x y z f g = f refl
under false x y z f g = g refl

yes_under : {A : Type 0} (b : Bool) (x y : A) → b ≡ true → cond b x y ≡ x
yes_under b x y e = rw e refl

module _ (ds : List Decl) (valid : ∥ Declared ds ∥₁) (declared : Declared ds) where
  holds_tells : (P : Type 0) (f : Declared ds → Decided P) → Tells (holds ds valid P f) P
  unfolding holds
  holds_tells P f = test_tells (Declared ds) P f valid declared

  pub below_tells : (t u : Ty) → Tells (below_test ds valid t u) (IsJudgedBelow ds t u)
  unfolding below_test
  below_tells t u = holds_tells (IsJudgedBelow ds t u) (λ d. judged_below_decided ds d t u)

  module _ (s : Written) where
    pub signature_tells : SigAnswer (signature_refusal ds valid s) ds s
    unfolding signature_refusal
    signature_tells =
        sig_answer ds s _ _ _ _ _ _ _ (holds_tells (VariablePlace s) (λ d. place_decided s)) (holds_tells (UnusedVariable s) (λ d. unused_decided s)) (holds_tells (TooManyParameters s) (λ d. many_decided s))
        (holds_tells (WrongParameterCount ds s) (λ d. count_decided ds s)) (holds_tells (TypeLimit ds s) (λ d. limit_decided ds d s)) (holds_tells (BoundsCrossed ds s) (λ d. crossed_decided ds d s))
        (holds_tells (BoundBroken ds s) (λ d. broken_decided ds d s))

    pub signature_only : (o : Option StaticKind) → SigAnswer o ds s → o ≡ signature_refusal ds valid s
    signature_only o h = sig_only ds s o (signature_refusal ds valid s) h signature_tells

    pub body_tells : BodyAnswer (body_refusal ds valid s) ds s
    unfolding body_refusal
    body_tells =
        body_answer ds s _ _ _ _ _ _ _ (holds_tells (VariablePlace (without_statics s)) (λ d. place_decided (without_statics s))) (holds_tells (UnusedVariable s) (λ d. unused_decided s))
        (holds_tells (TooManyParameters s) (λ d. many_decided s)) (holds_tells (WrongParameterCount ds s) (λ d. count_decided ds s)) (holds_tells (BodyTypeLimit ds s) (λ d. body_limit_decided ds d s))
        (holds_tells (BoundsCrossed ds s) (λ d. crossed_decided ds d s)) (holds_tells (BoundBroken ds s) (λ d. broken_decided ds d s))

    pub body_only_is : (o : Option StaticKind) → BodyAnswer o ds s → o ≡ body_refusal ds valid s
    body_only_is o h = body_only ds s o (body_refusal ds valid s) h body_tells

  -- the tests are right
  right_signature : (s : Written) → HasOwnVariables s → NamesDeclared ds s → SigAnswer (signature_test ds valid s) ds s
  unfolding signature_test
  right_signature s own known =
      let e : cond (is_well_named ds s) (signature_refusal ds valid s) None ≡ signature_refusal ds valid s = yes_under (is_well_named ds s) (signature_refusal ds valid s) None (both_true _ (names_declared ds s) own known) in
      subst (λ o. SigAnswer o ds s) (sym e) (signature_tells s)

  right_body : (s : Written) → NamesDeclared ds s → BodyAnswer (body_test ds valid s) ds s
  unfolding body_test
  right_body s known =
      let e : cond (names_declared ds s) (body_refusal ds valid s) None ≡ body_refusal ds valid s = yes_under (names_declared ds s) (body_refusal ds valid s) None known in
      subst (λ o. BodyAnswer o ds s) (sym e) (body_tells s)

  right_wide : (p : ℕ) → p < length ds → Tells (wide_test ds valid p) (TypeLimit ds (fields_signature (slice_get ds p)))
  unfolding wide_test
  right_wide p l =
      let P = TypeLimit ds (fields_signature (slice_get ds p)) in
      let b = holds ds valid P (λ d. limit_decided ds d (fields_signature (slice_get ds p))) in
      let k : nat_lt p (length ds) ≡ true = grind (arith, l) in
      let e : cond (nat_lt p (length ds)) b false ≡ b = yes_under (nat_lt p (length ds)) b false k in
      subst (λ r. Tells r P) (sym e) (holds_tells P (λ d. limit_decided ds d (fields_signature (slice_get ds p))))

  -- what the code finds is what the tests say
  pub below_is : (t u : Ty) (b : Bool) → Tells b (IsJudgedBelow ds t u) → b ≡ below_test ds valid t u
  below_is t u b t2 = told_same (IsJudgedBelow ds t u) b (below_test ds valid t u) t2 (below_tells t u)

  pub signature_is : (s : Written) (o : Option StaticKind) → (is_well_named ds s ≡ true → SigAnswer o ds s) → (is_well_named ds s ≡ false → o ≡ None) → o ≡ signature_test ds valid s
  unfolding signature_test
  signature_is s o f g = under (is_well_named ds s) (signature_refusal ds valid s) None o (λ e. signature_only s o (f e)) g

  pub body_is : (s : Written) (o : Option StaticKind) → (names_declared ds s ≡ true → BodyAnswer o ds s) → (names_declared ds s ≡ false → o ≡ None) → o ≡ body_test ds valid s
  unfolding body_test
  body_is s o f g = under (names_declared ds s) (body_refusal ds valid s) None o (λ e. body_only_is s o (f e)) g

  pub wide_is : (p : ℕ) (b : Bool) → (p < length ds → Tells b (TypeLimit ds (fields_signature (slice_get ds p)))) → ((p < length ds → ⊥) → b ≡ false) → b ≡ wide_test ds valid p
  unfolding wide_test
  wide_is p b f g =
      let P = TypeLimit ds (fields_signature (slice_get ds p)) in
      let d : Declared ds → Decided P = λ d. limit_decided ds d (fields_signature (slice_get ds p)) in
      under (nat_lt p (length ds)) (holds ds valid P d) false b (λ e. told_same P b (holds ds valid P d) (f (grind (arith, e))) (holds_tells P d)) (λ e. g (λ l. grind (arith, e, l)))

  right_allowed : (s : Written) → HasOwnVariables s → NamesDeclared ds s → IsAllowedSig ds s → signature_test ds valid s ≡ None
  right_allowed s own known h =
      let e = both_true _ (names_declared ds s) own known in
      sym (signature_is s None (λ f. h) (λ f. absurd (not_both (is_well_named ds s) e f)))

  right_usable : (s : Written) → NamesDeclared ds s → IsAllowedType ds s → body_test ds valid s ≡ None
  right_usable s known h = sym (body_is s None (λ f. h) (λ f. absurd (not_both (names_declared ds s) known f)))

  right_foreign : (s : Written) → (HasOwnVariables s × NamesDeclared ds s → ⊥) → signature_test ds valid s ≡ None
  right_foreign s out = sym (signature_is s None (λ e. absurd (out (both_of _ (names_declared ds s) e))) (λ f. refl))

  right_unknown : (s : Written) → (NamesDeclared ds s → ⊥) → body_test ds valid s ≡ None
  right_unknown s out = sym (body_is s None (λ e. absurd (out e)) (λ f. refl))

  right_absent : (p : ℕ) → length ds ≤ p → wide_test ds valid p ≡ false
  right_absent p h = sym (wide_is p false (λ l. absurd (omega (arith, h, l))) (λ d. refl))

  pub right : IsRight ds (all_tests ds valid)
  right = record {
    below = below_tells;
    signature = right_signature;
    allowed = right_allowed;
    body = right_body;
    usable = right_usable;
    wide = right_wide;
    foreign = right_foreign;
    unknown = right_unknown;
    absent = right_absent;
  }

-- whether the names are right
pub named_well : (ds : List Decl) (s : Written) (r : Bool) → (IsTrue r → HasOwnVariables s) → (IsTrue r → NamesDeclared ds s) → r ≡ true → is_well_named ds s ≡ true
named_well ds s r f g e = both_true _ (names_declared ds s) (f e) (g e)

pub not_named : (ds : List Decl) (s : Written) (r : Bool) → (HasOwnVariables s → NamesDeclared ds s → IsTrue r) → r ≡ false → is_well_named ds s ≡ true → ⊥
not_named ds s r f e h = let b = both_of _ (names_declared ds s) h in let t : r ≡ true = f b.0 b.1 in let g : true ≡ false = sym t ∙ e in cc
