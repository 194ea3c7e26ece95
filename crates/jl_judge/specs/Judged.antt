-- What is known of a type that can be judged, by its normal form.
use Rattle.std.specs.Prelude.{List}
use Rattle.jl_model.specs.declared.ty.Ty.{Ty}
use Rattle.jl_model.specs.declared.ty.Decl.{Decl}
use Rattle.jl_model.specs.Ancestors.{table_of}
use Rattle.jl_model.specs.Subtype.{Equal}
use Rattle.jl_types.specs.Ground.{IsGround}
use Rattle.jl_judge.specs.Right.{CanBeJudged}

-- it can be judged, and u is its normal form
pub record IsJudgedAs (ds : List Decl) (t u : Ty) : Type 0 where
  pub judged : CanBeJudged ds t
  pub ground : IsGround ds u
  pub equal : Equal (table_of ds) t u
