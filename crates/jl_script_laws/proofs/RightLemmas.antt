-- Tests that tell what holds over the declarations refuse what is not allowed.
use Rattle.std.proofs.Common.{◌∙◌, sym, subst, true≢false, List, Option}
use Rattle.jl_model.specs.declared.ty.Decl.{Decl}
use Rattle.jl_written.specs.declared.fault.StaticKind.{StaticKind}
use Rattle.jl_resolve_forms.specs.TypesIn.{Tests}
use Rattle.jl_sig.proofs.OwnLemmas.{own_joined}
use Rattle.jl_judge.specs.Answers.{SigAnswer, BodyAnswer}
use Rattle.jl_judge.specs.Right.{IsRight}
use Rattle.jl_valid.specs.Asked.{AreTold}

pub told : (ds : List Decl) (t : Tests) → IsRight ds t → AreTold ds t
told ds t h = record {
  signature = λ s own bounds known e. subst (λ (o : Option StaticKind). SigAnswer o ds s) e (h.signature s (own_joined s bounds own) known);
  body = λ s known e. subst (λ (o : Option StaticKind). BodyAnswer o ds s) e (h.body s known);
  wide = λ p l e large. true≢false (sym ((h.wide p l).1 large) ∙ e);
}
