-- Right tests answer by faults of types alone.
use Rattle.std.proofs.Common.{true, false, true≢false, List, ◌≡◌, Option, Some, None, is_some, refl, sym, ap, subst, ◌∙◌}
use Rattle.std.proofs.lemmas.Bool.{false_from_ne_true}
use Rattle.jl_model.specs.declared.ty.Decl.{Decl}
use Rattle.jl_model.specs.declared.ty.Written.{Written}
use Rattle.jl_written.specs.declared.fault.StaticKind.{StaticKind}
use Rattle.jl_written.specs.declared.fault.StaticKind.TheVariants as kind
use Rattle.jl_resolve_forms.specs.TypesIn.{Tests}
use Rattle.jl_judge.specs.Answers.{SigAnswer, BodyAnswer}
use Rattle.jl_judge.specs.Right.{IsRight}
use Rattle.jl_fault_laws.specs.Rows.{has_row, IsOtherKind, TellTypes}

-- an answer is of another row where none of a row is answered
other_of : (o : Option StaticKind) → ((k : StaticKind) → o ≡ Some k → has_row k ≡ true → ⊥) → IsOtherKind o
other_of None h = tt
other_of (Some k) h = false_from_ne_true (has_row k) (λ r. h k refl r)

sig_other : (ds : List Decl) (s : Written) (k : StaticKind) → SigAnswer (Some k) ds s → has_row k ≡ false
sig_other ds s kind.UnknownName a = absurd a
sig_other ds s kind.UnknownFunction a = absurd a
sig_other ds s kind.TooManyArguments a = absurd a
sig_other ds s kind.UnknownType a = absurd a
sig_other ds s kind.Rebound a = absurd a
sig_other ds s kind.DuplicateType a = absurd a
sig_other ds s kind.NameClash a = absurd a
sig_other ds s kind.TooManySites a = absurd a
sig_other ds s _ a = refl

body_other : (ds : List Decl) (s : Written) (k : StaticKind) → BodyAnswer (Some k) ds s → has_row k ≡ false
body_other ds s kind.UnknownName a = absurd a
body_other ds s kind.UnknownFunction a = absurd a
body_other ds s kind.TooManyArguments a = absurd a
body_other ds s kind.UnknownType a = absurd a
body_other ds s kind.Rebound a = absurd a
body_other ds s kind.DuplicateType a = absurd a
body_other ds s kind.NameClash a = absurd a
body_other ds s kind.TooManySites a = absurd a
body_other ds s _ a = refl

none_some : (k : StaticKind) → None ≡ Some k → ⊥
none_some k e = true≢false (sym (ap is_some e))

both : (k : StaticKind) → has_row k ≡ false → has_row k ≡ true → ⊥
both k f r = true≢false (sym r ∙ f)

pub tell_types : (ds : List Decl) (t : Tests) → IsRight ds t → TellTypes t
tell_types ds t right = record {
  signature = λ w. other_of (t.signature w) (λ k e r.
      none_some k (sym (right.foreign w (λ p. both k (sig_other ds w k (subst (λ o. SigAnswer o ds w) e (right.signature w p.0 p.1))) r)) ∙ e));
  body = λ w. other_of (t.body w) (λ k e r.
      none_some k (sym (right.unknown w (λ p. both k (body_other ds w k (subst (λ o. BodyAnswer o ds w) e (right.body w p))) r)) ∙ e));
}
