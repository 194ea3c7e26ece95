-- What a task does by itself: what comes next after a turn that asks nobody.
use Rattle.std.specs.Prelude.{ℕ, ◌-◌, List, [], ◌∷◌, ◌++◌, Bool, true, false, map, get_or}
use Rattle.jl_model.specs.declared.ty.Ty.{Ty}
use Rattle.jl_program.specs.declared.value.Value.{Value}
use Rattle.jl_program.specs.declared.value.Value.TheVariants as V
use Rattle.jl_calculus.specs.declared.history.Outcome.{Outcome}
use Rattle.jl_calculus.specs.declared.history.Outcome.TheVariants as O
use Rattle.jl_program.specs.declared.fault.Fault.TheVariants.{NotBool}
use Rattle.jl_program.specs.declared.tree.Expr.{Expr, out-Expr}
use Rattle.jl_program.specs.declared.tree.Stmt.{Stmt, out-Stmt}
use Rattle.jl_program.specs.declared.tree.Item.{Item, out-Item}
use Rattle.jl_program.specs.declared.tree.Piece.{Piece, out-Piece}
use Rattle.jl_program.specs.declared.tree.Expr.TheOpen.{Expr-F, Stmt-F, Item-F, Piece-F}
use Rattle.jl_program.specs.declared.tree.Expr.TheOpen as F
use Rattle.jl_program.specs.declared.tree.Program.{Program}
use Rattle.jl_task.specs.declared.point.Frame.{Frame}
use Rattle.jl_task.specs.declared.point.Frame.TheVariants.{Args, Testing, AfterStmt, Block, AfterItem, Evaluated, Showing, Body}
use Rattle.jl_task.specs.declared.point.Work.{Work}
use Rattle.jl_task.specs.declared.point.Work.TheVariants.{Eval, Give, Leave, Acting, Stmts, Items, Defining, Pieces, Ended, Lost}
use Rattle.jl_task.specs.declared.point.Now.{Now}
use Rattle.jl_calculus.specs.Run.{bound_at, newline}
use Rattle.jl_program.specs.Text.{value_text}
use Rattle.jl_program.specs.TypeOf.{type_of}
use Rattle.jl_program.specs.Meaning.{datum}
use Rattle.jl_program.specs.declared.tree.Start.{Start}

-- what comes next, and where
abbrev pub Point : Type 0
Point = Work × Now

-- an expression is begun, under a frame that waits for its value
abbrev pub pushes : Expr → Frame → Now → Point
pushes e f n = (Eval e, record n { stack = f ∷ n.stack })

-- the next part of an expression, or all have values
abbrev pub go_args : Expr → List Value → List Expr → Now → Point
go_args e done [] n = (Acting e done, n)
go_args e done (x ∷ xs) n = pushes x (Args e done xs) n

-- the next piece of a `print`, or its end
abbrev pub go_piece : Piece-F Expr Item Piece Stmt → List ℕ → List Piece → Bool → Now → Point
go_piece (F.Text bytes) text xs line n = (Pieces (text ++ bytes) xs line, n)
go_piece (F.Show e) text xs line n = pushes e (Showing text xs line) n

abbrev pub go_pieces : List ℕ → List Piece → Bool → Now → Point
go_pieces text [] line n = (Give V.Nothing, record n { out = n.out ++ (text ++ newline line) })
go_pieces text (x ∷ xs) line n = go_piece (out-Piece x) text xs line n

-- the expression of a statement
abbrev pub expr_in : Stmt-F Expr Item Piece Stmt → Expr
expr_in (F.Stmt::Bind slot e) = e
expr_in (F.Stmt::Do e) = e
expr_in (F.Return e) = e

-- the next statement of a block, or its end
abbrev pub go_stmts : List Stmt → Value → Now → Point
go_stmts [] v n = (Give v, n)
go_stmts (x ∷ xs) v n = pushes (expr_in (out-Stmt x)) (AfterStmt x xs) n

-- an expression is begun
abbrev pub begun_layer : Expr → Expr-F Expr Item Piece Stmt → Now → Point
begun_layer e (F.Int i) n = (Give (V.Int i), n)
begun_layer e (F.Bool b) n = (Give (V.Bool b), n)
begun_layer e F.Nothing n = (Give V.Nothing, n)
begun_layer e (F.Local x) n = (Give (get_or n.env x V.Nothing), n)
begun_layer e (F.Call f xs) n = go_args e [] xs n
begun_layer e (F.Latest f xs) n = go_args e [] xs n
begun_layer e (F.Make t xs) n = go_args e [] xs n
begun_layer e (F.Infer name xs) n = go_args e [] xs n
begun_layer e (F.Parts xs) n = go_args e [] xs n
begun_layer e (F.Field a name) n = pushes a (Args e [] []) n
begun_layer e (F.Part a number) n = pushes a (Args e [] []) n
begun_layer e (F.Egal a b negated) n = pushes a (Args e [] (b ∷ [])) n
begun_layer e (F.Isa a t) n = pushes a (Args e [] []) n
begun_layer e (F.Sub t u) n = (Acting e [], n)
begun_layer e (F.If test then_ else_) n = pushes test (Testing e) n
begun_layer e (F.And a b) n = pushes a (Testing e) n
begun_layer e (F.Or a b) n = pushes a (Testing e) n
begun_layer e (F.Block xs) n = (Stmts xs V.Nothing, record n { stack = Block n.env ∷ n.stack })
begun_layer e (F.Eval xs) n = (Items true xs V.Nothing, record n { env = []; bindings = []; stack = Evaluated n.env n.bindings ∷ n.stack })
begun_layer e (F.Spawn place) n = (Acting e [], n)
begun_layer e (F.Delete place) n = (Acting e [], n)
begun_layer e (F.Fetch a) n = pushes a (Args e [] []) n
begun_layer e (F.Print ps line) n = (Pieces [] ps line, n)

abbrev pub begun : Expr → Now → Point
begun e n = begun_layer e (out-Expr e) n

-- a fault ends the task
abbrev pub refused_test : Value → Now → Point
refused_test v n = (Ended (O.Error (NotBool (type_of v))), n)

-- the branch that a condition takes; no other form waits for a condition
abbrev pub branch : Expr-F Expr Item Piece Stmt → Bool → Now → Point
branch (F.If test then_ else_) true n = (Eval then_, n)
branch (F.If test then_ else_) false n = (Eval else_, n)
branch (F.And a b) true n = (Eval b, n)
branch (F.And a b) false n = (Give (V.Bool false), n)
branch (F.Or a b) true n = (Give (V.Bool true), n)
branch (F.Or a b) false n = (Eval b, n)
branch _ t n = (Lost, n)

-- a condition is a truth value, and another value is refused
abbrev pub tested : Expr-F Expr Item Piece Stmt → Value → Now → Point
tested x (V.Bool t) n = branch x t n
tested x (V.Int i) n = refused_test (V.Int i) n
tested x V.Nothing n = refused_test V.Nothing n
tested x (V.Task i) n = refused_test (V.Task i) n
tested x (V.Tuple c) n = refused_test (V.Tuple c) n
tested x (V.Struct c) n = refused_test (V.Struct c) n

-- a statement has its value
abbrev pub after_stmt : Stmt-F Expr Item Piece Stmt → List Stmt → Value → Now → Point
after_stmt (F.Stmt::Bind slot e) xs v n = (Stmts xs v, record n { env = bound_at slot v n.env })
after_stmt (F.Stmt::Do e) xs v n = (Stmts xs v, n)
after_stmt (F.Return e) xs v n = (Leave v, n)

-- a statement at the top or of an evaluated block has its value
abbrev pub after_item : Item-F Expr Item Piece Stmt → Bool → List Item → Value → Now → Point
after_item (F.Define site) fresh xs v n = (Items fresh xs v, n)
after_item (F.Item::Bind slot e) fresh xs v n = (Items fresh xs v, record n { env = bound_at slot v n.env })
after_item (F.Item::Do e) fresh xs v n = (Items fresh xs v, n)

-- a frame takes a value
abbrev pub taken : Program → Frame → Value → Now → Point
taken P (Args e done xs) v n = go_args e (done ++ v ∷ []) xs n
taken P (Testing e) v n = tested (out-Expr e) v n
taken P (AfterStmt x xs) v n = after_stmt (out-Stmt x) xs v n
taken P (Block env) v n = (Give v, record n { env = env })
taken P (AfterItem x fresh w xs) v n = after_item (out-Item x) fresh xs v (record n { world = w })
taken P (Evaluated env bindings) v n = (Give v, record n { env = env; bindings = bindings })
taken P (Showing text xs line) v n = (Pieces (text ++ value_text P v) xs line, n)
taken P (Body w k env bindings) v n = (Give v, record n { world = w; room = k; env = env; bindings = bindings })

-- a value is given to the topmost frame
abbrev pub given : Program → List Frame → Value → Now → Point
given P [] v n = (Ended (O.Value v), n)
given P (f ∷ K) v n = taken P f v (record n { stack = K })

-- a frame lets a `return` pass, up to that of the body
abbrev pub passed : Frame → Value → Now → Point
passed (Args e done xs) v n = (Leave v, n)
passed (Testing e) v n = (Leave v, n)
passed (AfterStmt x xs) v n = (Leave v, n)
passed (Block env) v n = (Leave v, n)
passed (AfterItem x fresh w xs) v n = (Leave v, record n { world = w })
passed (Evaluated env bindings) v n = (Leave v, n)
passed (Showing text xs line) v n = (Leave v, n)
passed (Body w k env bindings) v n = (Give v, record n { world = w; room = k; env = env; bindings = bindings })

abbrev pub left : List Frame → Value → Now → Point
left [] v n = (Ended (O.Value v), n)
left (f ∷ K) v n = passed f v (record n { stack = K })

-- a value is given on, and a fault ends the task
abbrev pub answered : Outcome → Work
answered (O.Value v) = Give v
answered (O.Error e) = Ended (O.Error e)

-- a statement at the top or of an evaluated block begins where it sees what was bound before it, or nothing
abbrev pub scoped : Bool → Now → Now
scoped true n = record n { env = []; bindings = [] }
scoped false n = n

-- a body is begun, in a world, with these arguments and these types for its static parameters
abbrev pub entered : Expr → ℕ → List Value → List Ty → Now → Point
entered e w vs ts n = (Eval e, record n { world = w; room = n.room - 1; env = vs; bindings = ts; stack = Body n.world n.room n.env n.bindings ∷ n.stack })

-- A statement at the top or of an evaluated block has looked and saw this world: its expression is begun there, and the code around goes on
-- in its own world.
abbrev pub begun_item : Expr → Item → Bool → List Item → ℕ → Now → Point
begun_item e x fresh xs w n = let n' = scoped fresh n in (Eval e, record n' { world = w; stack = AfterItem x fresh n.world xs ∷ n.stack })

abbrev pub looked_item : Item → Item-F Expr Item Piece Stmt → Bool → List Item → ℕ → Now → Point
looked_item x (F.Define site) fresh xs w n = (Defining site fresh xs, scoped fresh n)
looked_item x (F.Item::Bind slot e) fresh xs w n = begun_item e x fresh xs w n
looked_item x (F.Item::Do e) fresh xs w n = begun_item e x fresh xs w n

-- the start of a task that is spawned here: it sees what its place sees
abbrev pub start_of : ℕ → Now → Start
start_of place n = record { spawn = place; env = map datum n.env; bindings = n.bindings; world = n.world }
