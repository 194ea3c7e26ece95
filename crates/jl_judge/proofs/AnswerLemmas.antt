-- The first refusal that is told is the answer, and there is no other answer.
use Rattle.std.proofs.Common.{◌≡◌, ◌∙◌, sym, refl, Bool, true, false, List, Option, None, Some, ◌⊎◌, inl, inr}
use Rattle.jl_model.specs.declared.ty.Decl.{Decl}
use Rattle.jl_model.specs.declared.ty.Written.{Written}
use Rattle.jl_model.specs.SigRefusals.{VariablePlace, UnusedVariable, TooManyParameters, WrongParameterCount, TypeLimit, BoundsCrossed, BoundBroken}
use Rattle.jl_program.specs.BodyTypes.{without_statics}
use Rattle.jl_match.specs.SigRefused as sig
use Rattle.jl_body.specs.TypeRefused as body
use Rattle.jl_body.specs.TypeRefused.{BodyTypeLimit}
use Rattle.jl_written.specs.declared.fault.StaticKind.{StaticKind}
use Rattle.jl_written.specs.declared.fault.StaticKind.TheVariants as kind
use Rattle.jl_judge.specs.Answers.{SigAnswer, BodyAnswer}
use Rattle.jl_judge.specs.Tell.{Tells}
use Rattle.jl_judge.specs.Tests.{first_told}
use Rattle.jl_judge.proofs.TellLemmas.{not_told}

module _ (ds : List Decl) (s : Written) where
  well_written : Tells false (VariablePlace s) → Tells false (UnusedVariable s) → Tells false (TooManyParameters s) → Tells false (WrongParameterCount ds s) → sig.IsWellWritten ds s
  well_written v u m c = record {
    placed = not_told (VariablePlace s) v;
    used = not_told (UnusedVariable s) u;
    few = not_told (TooManyParameters s) m;
    counted = not_told (WrongParameterCount ds s) c;
  }

  -- what is told first is the answer
  pub sig_answer : (v u m c l x b : Bool) → Tells v (VariablePlace s) → Tells u (UnusedVariable s) → Tells m (TooManyParameters s) → Tells c (WrongParameterCount ds s) → Tells l (TypeLimit ds s) → Tells x (BoundsCrossed ds s)
      → Tells b (BoundBroken ds s) → SigAnswer (first_told v u m c l x b) ds s
  sig_answer true u m c l x b tv tu tm tc tl tx tb = tv.0 refl
  sig_answer false true m c l x b tv tu tm tc tl tx tb = (not_told (VariablePlace s) tv, tu.0 refl)
  sig_answer false false true c l x b tv tu tm tc tl tx tb = (not_told (VariablePlace s) tv, not_told (UnusedVariable s) tu, tm.0 refl)
  sig_answer false false false true l x b tv tu tm tc tl tx tb = (not_told (VariablePlace s) tv, not_told (UnusedVariable s) tu, not_told (TooManyParameters s) tm, tc.0 refl)
  sig_answer false false false false true x b tv tu tm tc tl tx tb = (well_written tv tu tm tc, tl.0 refl)
  sig_answer false false false false false true b tv tu tm tc tl tx tb = (well_written tv tu tm tc, not_told (TypeLimit ds s) tl, tx.0 refl)
  sig_answer false false false false false false true tv tu tm tc tl tx tb = (well_written tv tu tm tc, not_told (TypeLimit ds s) tl, not_told (BoundsCrossed ds s) tx, tb.0 refl)
  sig_answer false false false false false false false tv tu tm tc tl tx tb = record {
    placed = not_told (VariablePlace s) tv;
    used = not_told (UnusedVariable s) tu;
    few = not_told (TooManyParameters s) tm;
    counted = not_told (WrongParameterCount ds s) tc;
    small = not_told (TypeLimit ds s) tl;
    ordered = not_told (BoundsCrossed ds s) tx;
    within = not_told (BoundBroken ds s) tb;
  }

  body_written : Tells false (VariablePlace (without_statics s)) → Tells false (UnusedVariable s) → Tells false (TooManyParameters s) → Tells false (WrongParameterCount ds s) → body.IsWellWritten ds s
  body_written v u m c = record {
    placed = not_told (VariablePlace (without_statics s)) v;
    used = not_told (UnusedVariable s) u;
    few = not_told (TooManyParameters s) m;
    counted = not_told (WrongParameterCount ds s) c;
  }

  pub body_answer : (v u m c l x b : Bool) → Tells v (VariablePlace (without_statics s)) → Tells u (UnusedVariable s) → Tells m (TooManyParameters s) → Tells c (WrongParameterCount ds s) → Tells l (BodyTypeLimit ds s) → Tells x (BoundsCrossed ds s)
      → Tells b (BoundBroken ds s) → BodyAnswer (first_told v u m c l x b) ds s
  body_answer true u m c l x b tv tu tm tc tl tx tb = tv.0 refl
  body_answer false true m c l x b tv tu tm tc tl tx tb = (not_told (VariablePlace (without_statics s)) tv, tu.0 refl)
  body_answer false false true c l x b tv tu tm tc tl tx tb = (not_told (VariablePlace (without_statics s)) tv, not_told (UnusedVariable s) tu, tm.0 refl)
  body_answer false false false true l x b tv tu tm tc tl tx tb = (not_told (VariablePlace (without_statics s)) tv, not_told (UnusedVariable s) tu, not_told (TooManyParameters s) tm, tc.0 refl)
  body_answer false false false false true x b tv tu tm tc tl tx tb = (body_written tv tu tm tc, tl.0 refl)
  body_answer false false false false false true b tv tu tm tc tl tx tb = (body_written tv tu tm tc, not_told (BodyTypeLimit ds s) tl, tx.0 refl)
  body_answer false false false false false false true tv tu tm tc tl tx tb = (body_written tv tu tm tc, not_told (BodyTypeLimit ds s) tl, not_told (BoundsCrossed ds s) tx, tb.0 refl)
  body_answer false false false false false false false tv tu tm tc tl tx tb = record {
    placed = not_told (VariablePlace (without_statics s)) tv;
    used = not_told (UnusedVariable s) tu;
    few = not_told (TooManyParameters s) tm;
    counted = not_told (WrongParameterCount ds s) tc;
    small = not_told (BodyTypeLimit ds s) tl;
    ordered = not_told (BoundsCrossed ds s) tx;
    within = not_told (BoundBroken ds s) tb;
  }

-- THE ONLY ANSWER

-- P holds, or it does not and the rest is asked
abbrev Next : Type 0 → Type 0 → Type 0
Next P R = P ⊎ ((P → ⊥) × R)

abbrev first : {A : Type 0} (P R : Type 0) → A → (R → A) → Next P R → A
first P R k f (inl p) = k
first P R k f (inr h) = f h.1

one_first : {A : Type 0} (P R : Type 0) (k : A) (f : R → A) → ((a b : R) → f a ≡ f b) → (a b : Next P R) → first P R k f a ≡ first P R k f b
one_first P R k f same (inl p) (inl q) = refl
one_first P R k f same (inl p) (inr h) = absurd (h.0 p)
one_first P R k f same (inr h) (inl q) = absurd (h.0 q)
one_first P R k f same (inr g) (inr h) = same g.1 h.1

-- the first that holds of seven refusals
module _ (V U M C L X B : Type 0) where
  abbrev Asked : Type 0
  Asked = Next V (Next U (Next M (Next C (Next L (Next X (Next B (Unit {0})))))))

  abbrev answer : Asked → Option StaticKind
  answer =
      first V _ (Some kind.VariablePlace) (first U _ (Some kind.UnusedVariable) (first M _ (Some kind.TooManyParameters) (first C _ (Some kind.WrongParameterCount)
      (first L _ (Some kind.TypeLimit) (first X _ (Some kind.BoundsCrossed) (first B (Unit {0}) (Some kind.BoundBroken) (λ _. None)))))))

  one_answer : (a b : Asked) → answer a ≡ answer b
  one_answer = one_first V _ _ _ (one_first U _ _ _ (one_first M _ _ _ (one_first C _ _ _ (one_first L _ _ _ (one_first X _ _ _ (one_first B (Unit {0}) _ _ (λ a b. refl)))))))

  -- it is the answer to what is asked
  abbrev Answers : Option StaticKind → Type 0
  Answers o = (a : Asked) × (o ≡ answer a)

  one_answered : (o p : Option StaticKind) → Answers o → Answers p → o ≡ p
  one_answered o p a b = a.1 ∙ one_answer a.0 b.0 ∙ sym b.1

module _ (ds : List Decl) (s : Written) where
  sig_answers : (o : Option StaticKind) → SigAnswer o ds s → Answers (VariablePlace s) (UnusedVariable s) (TooManyParameters s) (WrongParameterCount ds s) (TypeLimit ds s) (BoundsCrossed ds s) (BoundBroken ds s) o
  sig_answers None h = (inr (h.placed, inr (h.used, inr (h.few, inr (h.counted, inr (h.small, inr (h.ordered, inr (h.within, tt))))))), refl)
  sig_answers (Some kind.VariablePlace) h = (inl h, refl)
  sig_answers (Some kind.UnusedVariable) h = (inr (h.0, inl h.1), refl)
  sig_answers (Some kind.TooManyParameters) h = (inr (h.0, inr (h.1, inl h.2)), refl)
  sig_answers (Some kind.WrongParameterCount) h = (inr (h.0, inr (h.1, inr (h.2, inl h.3))), refl)
  sig_answers (Some kind.TypeLimit) h = (inr (h.0.placed, inr (h.0.used, inr (h.0.few, inr (h.0.counted, inl h.1)))), refl)
  sig_answers (Some kind.BoundsCrossed) h = (inr (h.0.placed, inr (h.0.used, inr (h.0.few, inr (h.0.counted, inr (h.1, inl h.2))))), refl)
  sig_answers (Some kind.BoundBroken) h = (inr (h.0.placed, inr (h.0.used, inr (h.0.few, inr (h.0.counted, inr (h.1, inr (h.2, inl h.3)))))), refl)
  sig_answers (Some _) h = absurd h

  -- a signature has one answer
  pub sig_only : (o p : Option StaticKind) → SigAnswer o ds s → SigAnswer p ds s → o ≡ p
  sig_only o p g h = one_answered (VariablePlace s) (UnusedVariable s) (TooManyParameters s) (WrongParameterCount ds s) (TypeLimit ds s) (BoundsCrossed ds s) (BoundBroken ds s) o p (sig_answers o g) (sig_answers p h)

  body_answers : (o : Option StaticKind) → BodyAnswer o ds s → Answers (VariablePlace (without_statics s)) (UnusedVariable s) (TooManyParameters s) (WrongParameterCount ds s) (BodyTypeLimit ds s) (BoundsCrossed ds s) (BoundBroken ds s) o
  body_answers None h = (inr (h.placed, inr (h.used, inr (h.few, inr (h.counted, inr (h.small, inr (h.ordered, inr (h.within, tt))))))), refl)
  body_answers (Some kind.VariablePlace) h = (inl h, refl)
  body_answers (Some kind.UnusedVariable) h = (inr (h.0, inl h.1), refl)
  body_answers (Some kind.TooManyParameters) h = (inr (h.0, inr (h.1, inl h.2)), refl)
  body_answers (Some kind.WrongParameterCount) h = (inr (h.0, inr (h.1, inr (h.2, inl h.3))), refl)
  body_answers (Some kind.TypeLimit) h = (inr (h.0.placed, inr (h.0.used, inr (h.0.few, inr (h.0.counted, inl h.1)))), refl)
  body_answers (Some kind.BoundsCrossed) h = (inr (h.0.placed, inr (h.0.used, inr (h.0.few, inr (h.0.counted, inr (h.1, inl h.2))))), refl)
  body_answers (Some kind.BoundBroken) h = (inr (h.0.placed, inr (h.0.used, inr (h.0.few, inr (h.0.counted, inr (h.1, inr (h.2, inl h.3)))))), refl)
  body_answers (Some _) h = absurd h

  -- a type in a body has one answer
  pub body_only : (o p : Option StaticKind) → BodyAnswer o ds s → BodyAnswer p ds s → o ≡ p
  body_only o p g h = one_answered (VariablePlace (without_statics s)) (UnusedVariable s) (TooManyParameters s) (WrongParameterCount ds s) (BodyTypeLimit ds s) (BoundsCrossed ds s) (BoundBroken ds s) o p (body_answers o g) (body_answers p h)
