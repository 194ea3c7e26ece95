-- Forms that answer by themselves once their parts have values, and what is known of them at a good point.
use Rattle.std.specs.Prelude.{◌≡◌, List}
use Rattle.jl_model.specs.declared.ty.Ty.{Ty}
use Rattle.jl_program.specs.declared.tree.Expr.{Expr}
use Rattle.jl_program.specs.declared.tree.Expr.TheOpen.{Expr-F}
use Rattle.jl_program.specs.declared.tree.Expr.TheOpen as F
use Rattle.jl_program.specs.declared.tree.Item.{Item}
use Rattle.jl_program.specs.declared.tree.Piece.{Piece}
use Rattle.jl_program.specs.declared.tree.Stmt.{Stmt}
use Rattle.jl_program.specs.declared.tree.Program.{Program}
use Rattle.jl_program.specs.declared.value.Value.{Value}
use Rattle.jl_program.specs.Valid.{IsValid}
use Rattle.jl_task.specs.declared.point.Now.{Now}
use Rattle.jl_task.specs.declared.point.Work.TheVariants.{Acting}
use Rattle.jl_task.specs.ValidPoint.{IsGoodPoint}

-- a form that asks nobody
abbrev pub IsOperation : Expr-F Expr Item Piece Stmt → Type 0
IsOperation (F.Make t xs) = Unit {0}
IsOperation (F.Infer name xs) = Unit {0}
IsOperation (F.Parts xs) = Unit {0}
IsOperation (F.Field a name) = Unit {0}
IsOperation (F.Part a number) = Unit {0}
IsOperation (F.Egal a b negated) = Unit {0}
IsOperation (F.Isa a t) = Unit {0}
IsOperation (F.Sub t u) = Unit {0}
IsOperation _ = ⊥

-- An expression acts on these values at a point of a run of the program, where the static parameters have these types.
pub record MayAct (P : Program) (statics : List Ty) (e : Expr) (vs : List Value) : Type 0 where
  pub valid : IsValid P
  pub now : Now
  pub bound : now.bindings ≡ statics
  pub good : IsGoodPoint P valid.views (Acting e vs, now)
