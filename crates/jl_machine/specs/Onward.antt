-- The turns of a machine that begins the next statement of a block with no turn of its own.
use Rattle.std.specs.Prelude.{List, [], ◌∷◌}
use Rattle.jl_program.specs.declared.value.Value.{Value}
use Rattle.jl_program.specs.declared.value.Value.TheVariants as V
use Rattle.jl_program.specs.declared.tree.Expr.{Expr, out-Expr}
use Rattle.jl_program.specs.declared.tree.Stmt.{Stmt, out-Stmt}
use Rattle.jl_program.specs.declared.tree.Item.{Item}
use Rattle.jl_program.specs.declared.tree.Piece.{Piece}
use Rattle.jl_program.specs.declared.tree.Expr.TheOpen.{Expr-F, Stmt-F}
use Rattle.jl_program.specs.declared.tree.Expr.TheOpen as F
use Rattle.jl_program.specs.declared.tree.Program.{Program}
use Rattle.jl_calculus.specs.declared.history.Outcome.TheVariants as O
use Rattle.jl_calculus.specs.Run.{bound_at}
use Rattle.jl_task.specs.declared.point.Frame.{Frame}
use Rattle.jl_task.specs.declared.point.Frame.TheVariants.{Args, Testing, AfterStmt, Block, AfterItem, Evaluated, Showing, Body}
use Rattle.jl_task.specs.declared.point.Work.TheVariants.{Give, Leave, Ended}
use Rattle.jl_task.specs.declared.point.Now.{Now}
use Rattle.jl_task.specs.Turns.{Point, go_stmts}
use Rattle.jl_task.specs.Skip.{leaf, by_leaf, skip_layer, skip_taken}

-- a block is begun with its first statement
abbrev pub onward_layer : Expr → Expr-F Expr Item Piece Stmt → Now → Point
onward_layer e (F.Block xs) n = go_stmts xs V.Nothing (record n { stack = Block n.env ∷ n.stack })
onward_layer e x n = skip_layer e x n

-- an expression is begun
abbrev pub onward_begun : Expr → Now → Point
onward_begun e n = by_leaf (leaf n.env (out-Expr e)) (λ v. (Give v, n)) (onward_layer e (out-Expr e) n)

-- a statement has its value, and the next one is begun
abbrev pub onward_stmt : Stmt-F Expr Item Piece Stmt → List Stmt → Value → Now → Point
onward_stmt (F.Stmt::Bind slot e) xs v n = go_stmts xs v (record n { env = bound_at slot v n.env })
onward_stmt (F.Stmt::Do e) xs v n = go_stmts xs v n
onward_stmt (F.Return e) xs v n = (Leave v, n)

-- a frame takes a value
abbrev pub onward_taken : Program → Frame → Value → Now → Point
onward_taken P (Args e done xs) v n = skip_taken P (Args e done xs) v n
onward_taken P (Testing e) v n = skip_taken P (Testing e) v n
onward_taken P (AfterStmt x xs) v n = onward_stmt (out-Stmt x) xs v n
onward_taken P (Block env) v n = skip_taken P (Block env) v n
onward_taken P (AfterItem x fresh w xs) v n = skip_taken P (AfterItem x fresh w xs) v n
onward_taken P (Evaluated env bindings) v n = skip_taken P (Evaluated env bindings) v n
onward_taken P (Showing text xs line) v n = skip_taken P (Showing text xs line) v n
onward_taken P (Body w k env bindings) v n = skip_taken P (Body w k env bindings) v n

abbrev pub onward_given : Program → List Frame → Value → Now → Point
onward_given P [] v n = (Ended (O.Value v), n)
onward_given P (f ∷ K) v n = onward_taken P f v (record n { stack = K })
