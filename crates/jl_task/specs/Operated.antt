-- Which answer a form has whose parts have values, where it asks nobody.
use Rattle.std.specs.Prelude.{ℕ, ◌≡◌, List, map}
use Rattle.jl_model.specs.declared.ty.Ty.{Ty}
use Rattle.jl_model.specs.declared.ty.Decl.{Decl}
use Rattle.jl_program.specs.declared.value.Value.{Value}
use Rattle.jl_program.specs.declared.tree.Expr.{Expr}
use Rattle.jl_program.specs.declared.tree.Stmt.{Stmt}
use Rattle.jl_program.specs.declared.tree.Item.{Item}
use Rattle.jl_program.specs.declared.tree.Piece.{Piece}
use Rattle.jl_program.specs.declared.tree.Expr.TheOpen.{Expr-F}
use Rattle.jl_program.specs.declared.tree.Expr.TheOpen as F
use Rattle.jl_calculus.specs.declared.history.Outcome.{Outcome}
use Rattle.jl_calculus.specs.Answers.{Answer}
use Rattle.jl_calculus.specs.Operations.{field_of, part_of, make_tuple, make_written, make_inferred, test_type, test_order, test_same}
use Rattle.jl_model.specs.Bindings.{bindings}
use Rattle.jl_program.specs.declared.tree.Program.{Program}
use Rattle.jl_program.specs.Scope.{types_of}
use Rattle.jl_program.specs.TypeOf.{type_of}
use Rattle.jl_calculus.specs.Run.{Body, operation, code, operates}
use Rattle.jl_task.specs.declared.point.Now.{Now}
use Rattle.jl_task.specs.Turns.{Point, answered, entered}
use Rattle.jl_task.specs.Point.{value_at}

-- this outcome alone
abbrev pub exactly : Outcome → Answer
exactly o p = p ≡ o

-- the answer of an operation, over the declarations, with these types for the static parameters; no other form is one
abbrev pub operation_of : List Decl → List Ty → Expr-F Expr Item Piece Stmt → List Value → Answer
operation_of ds statics (F.Make t xs) vs = make_written ds statics t vs
operation_of ds statics (F.Infer name xs) vs = make_inferred ds name vs
operation_of ds statics (F.Parts xs) vs = make_tuple ds vs
operation_of ds statics (F.Field a name) vs = exactly (field_of ds name (value_at vs 0))
operation_of ds statics (F.Part a number) vs = exactly (part_of ds number (value_at vs 0))
operation_of ds statics (F.Egal a b negated) vs = test_same negated (value_at vs 0) (value_at vs 1)
operation_of ds statics (F.Isa a t) vs = test_type ds statics (value_at vs 0) t
operation_of ds statics (F.Sub t u) vs = test_order ds statics t u
operation_of ds statics _ vs = λ o. ⊥

-- A method does its body in a world: an operation of the prelude answers, and code is begun with the types that the variables of its signature
-- have for these arguments.
abbrev pub performed : Program → Body → ℕ → List Value → Now → Point
performed P (operation site) w vs n = (answered (operates site vs), n)
performed P (code sig e) w vs n = entered e w vs (bindings (types_of P) sig (map type_of vs)) n
