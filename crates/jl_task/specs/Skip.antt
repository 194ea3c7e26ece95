-- The turns of a task that takes the values of leaves with no turn of their own.
use Rattle.std.specs.Prelude.{ℕ, List, [], ◌∷◌, ◌++◌, Option, None, Some, get_or}
use Rattle.jl_program.specs.declared.value.Value.{Value}
use Rattle.jl_program.specs.declared.value.Value.TheVariants as V
use Rattle.jl_program.specs.declared.tree.Expr.{Expr, out-Expr}
use Rattle.jl_program.specs.declared.tree.Stmt.{Stmt}
use Rattle.jl_program.specs.declared.tree.Item.{Item}
use Rattle.jl_program.specs.declared.tree.Piece.{Piece}
use Rattle.jl_program.specs.declared.tree.Expr.TheOpen.{Expr-F}
use Rattle.jl_program.specs.declared.tree.Expr.TheOpen as F
use Rattle.jl_program.specs.declared.tree.Program.{Program}
use Rattle.jl_calculus.specs.declared.history.Outcome.TheVariants as O
use Rattle.jl_task.specs.declared.point.Frame.{Frame}
use Rattle.jl_task.specs.declared.point.Frame.TheVariants.{Args, Testing, AfterStmt, Block, AfterItem, Evaluated, Showing, Body}
use Rattle.jl_task.specs.declared.point.Work.TheVariants.{Give, Acting, Ended}
use Rattle.jl_task.specs.declared.point.Now.{Now}
use Rattle.jl_task.specs.Turns.{Point, pushes, begun_layer, taken}

-- the value of a leaf
abbrev pub leaf : List Value → Expr-F Expr Item Piece Stmt → Option Value
leaf env (F.Int i) = Some (V.Int i)
leaf env (F.Bool b) = Some (V.Bool b)
leaf env F.Nothing = Some V.Nothing
leaf env (F.Local x) = Some (get_or env x V.Nothing)
leaf env _ = None

abbrev pub by_leaf : Option Value → (Value → Point) → Point → Point
by_leaf (Some v) next other = next v
by_leaf None next other = other

-- the parts that are leaves are taken at once
abbrev pub skip_args : Expr → List Value → List Expr → Now → Point
skip_args e done [] n = (Acting e done, n)
skip_args e done (x ∷ xs) n = by_leaf (leaf n.env (out-Expr x)) (λ v. skip_args e (done ++ v ∷ []) xs n) (pushes x (Args e done xs) n)

-- an expression that is no leaf is begun
abbrev pub skip_layer : Expr → Expr-F Expr Item Piece Stmt → Now → Point
skip_layer e (F.Call f xs) n = skip_args e [] xs n
skip_layer e (F.Latest f xs) n = skip_args e [] xs n
skip_layer e (F.Make t xs) n = skip_args e [] xs n
skip_layer e (F.Infer name xs) n = skip_args e [] xs n
skip_layer e (F.Parts xs) n = skip_args e [] xs n
skip_layer e (F.Field a name) n = skip_args e [] (a ∷ []) n
skip_layer e (F.Part a number) n = skip_args e [] (a ∷ []) n
skip_layer e (F.Egal a b negated) n = skip_args e [] (a ∷ b ∷ []) n
skip_layer e (F.Isa a t) n = skip_args e [] (a ∷ []) n
skip_layer e (F.Fetch a) n = skip_args e [] (a ∷ []) n
skip_layer e x n = begun_layer e x n

-- an expression is begun
abbrev pub skip_begun : Expr → Now → Point
skip_begun e n = by_leaf (leaf n.env (out-Expr e)) (λ v. (Give v, n)) (skip_layer e (out-Expr e) n)

-- a frame takes a value
abbrev pub skip_taken : Program → Frame → Value → Now → Point
skip_taken P (Args e done xs) v n = skip_args e (done ++ v ∷ []) xs n
skip_taken P (Testing e) v n = taken P (Testing e) v n
skip_taken P (AfterStmt x xs) v n = taken P (AfterStmt x xs) v n
skip_taken P (Block env) v n = taken P (Block env) v n
skip_taken P (AfterItem x fresh w xs) v n = taken P (AfterItem x fresh w xs) v n
skip_taken P (Evaluated env bindings) v n = taken P (Evaluated env bindings) v n
skip_taken P (Showing text xs line) v n = taken P (Showing text xs line) v n
skip_taken P (Body w k env bindings) v n = taken P (Body w k env bindings) v n

abbrev pub skip_given : Program → List Frame → Value → Now → Point
skip_given P [] v n = (Ended (O.Value v), n)
skip_given P (f ∷ K) v n = skip_taken P f v (record n { stack = K })
