-- The bounds and arguments of a type in a body that is not too large, in normal form.
use Rattle.std.specs.Prelude.{List}
use Rattle.jl_model.specs.declared.ty.Decl.{Decl}
use Rattle.jl_model.specs.declared.ty.Written.{Written}
use Rattle.jl_model.specs.Signature.{Both}
use Rattle.jl_model.specs.Refusals.{bound_types}
use Rattle.jl_model.specs.SigRefusals.{arguments_in}
use Rattle.jl_sig.specs.Forms.{IsBoundForm, AreFormed}
use Rattle.jl_sig.specs.Parts.{all_given}
use Rattle.jl_body.specs.TypeRefused.{BodyTypeLimit}
use Rattle.jl_sig.specs.declared.forms.Forms.{Forms}

-- the type is small, and these are its bounds and its arguments without variables in normal form
pub record AreFormsOf (ds : List Decl) (t : Written) (f : Forms) : Type 0 where
  pub bounds : Both (IsBoundForm ds) (bound_types t.vars) (bound_types f.bounds)
  pub arguments : AreFormed ds (arguments_in t) (all_given f.arguments.items)
  pub small : BodyTypeLimit ds t → ⊥
