-- How many turns are left, at most: a bound that each turn lowers.
use Rattle.std.specs.Prelude.{ℕ, ◌+◌, ◌-◌, ◌*◌, max, List, [], ◌∷◌, map}
use Rattle.jl_program.specs.declared.tree.Expr.{Expr, out-Expr}
use Rattle.jl_program.specs.declared.tree.Stmt.{Stmt}
use Rattle.jl_program.specs.declared.tree.Item.{Item}
use Rattle.jl_program.specs.declared.tree.Piece.{Piece}
use Rattle.jl_program.specs.declared.tree.Expr.TheOpen.{Expr-F, Stmt-F, Item-F, Piece-F}
use Rattle.jl_program.specs.declared.tree.Expr.TheOpen as F
use Rattle.jl_program.specs.declared.tree.Expr.TheFolds.{fold-Expr, fold-Stmt, fold-Item, fold-Piece}
use Rattle.jl_program.specs.declared.tree.Site.{Site}
use Rattle.jl_program.specs.declared.tree.Program.{Program}
use Rattle.jl_task.specs.declared.point.Frame.{Frame}
use Rattle.jl_task.specs.declared.point.Frame.TheVariants.{Args, Testing, AfterStmt, Block, AfterItem, Evaluated, Showing, Body}
use Rattle.jl_task.specs.declared.point.Work.{Work}
use Rattle.jl_task.specs.declared.point.Work.TheVariants.{Eval, Give, Leave, Acting, Calling, Stmts, Items, Defining, Pieces, Ended, Lost}
use Rattle.jl_task.specs.declared.point.Now.{Now}
use Rattle.jl_program.specs.Measures.{total}

-- An expression is begun, acts once its parts have values, asks at most one question, and gives its value.
abbrev pub expr_weight_step : Expr-F ℕ ℕ ℕ ℕ → ℕ
expr_weight_step (F.Int n) = 2
expr_weight_step (F.Bool b) = 2
expr_weight_step F.Nothing = 2
expr_weight_step (F.Local x) = 2
expr_weight_step (F.Call f xs) = 4 + total xs
expr_weight_step (F.Latest f xs) = 4 + total xs
expr_weight_step (F.Make t xs) = 4 + total xs
expr_weight_step (F.Infer name xs) = 4 + total xs
expr_weight_step (F.Parts xs) = 4 + total xs
expr_weight_step (F.Field a name) = 4 + a
expr_weight_step (F.Part a number) = 4 + a
expr_weight_step (F.Egal a b negated) = 4 + (a + b)
expr_weight_step (F.Isa a t) = 4 + a
expr_weight_step (F.Sub t u) = 4
expr_weight_step (F.If test then_ else_) = 2 + (test + (then_ + else_))
expr_weight_step (F.And a b) = 2 + (a + b)
expr_weight_step (F.Or a b) = 2 + (a + b)
expr_weight_step (F.Block xs) = 4 + total xs
expr_weight_step (F.Eval xs) = 4 + total xs
expr_weight_step (F.Spawn place) = 4
expr_weight_step (F.Delete place) = 4
expr_weight_step (F.Fetch a) = 4 + a
expr_weight_step (F.Print ps line) = 3 + total ps

abbrev pub item_weight_step : Item-F ℕ ℕ ℕ ℕ → ℕ
item_weight_step (F.Define site) = 2
item_weight_step (F.Item::Bind slot x) = 1 + x
item_weight_step (F.Item::Do x) = 1 + x

abbrev pub piece_weight_step : Piece-F ℕ ℕ ℕ ℕ → ℕ
piece_weight_step (F.Text bytes) = 1
piece_weight_step (F.Show x) = 1 + x

abbrev pub stmt_weight_step : Stmt-F ℕ ℕ ℕ ℕ → ℕ
stmt_weight_step (F.Stmt::Bind slot x) = 1 + x
stmt_weight_step (F.Stmt::Do x) = 1 + x
stmt_weight_step (F.Return x) = 1 + x

-- the turns that an expression takes until its value is taken, but for those of the bodies that it calls
abbrev pub expr_weight : Expr → ℕ
expr_weight = fold-Expr ℕ ℕ ℕ ℕ expr_weight_step item_weight_step piece_weight_step stmt_weight_step

abbrev pub stmt_weight : Stmt → ℕ
stmt_weight = fold-Stmt ℕ ℕ ℕ ℕ expr_weight_step item_weight_step piece_weight_step stmt_weight_step

abbrev pub item_weight : Item → ℕ
item_weight = fold-Item ℕ ℕ ℕ ℕ expr_weight_step item_weight_step piece_weight_step stmt_weight_step

abbrev pub piece_weight : Piece → ℕ
piece_weight = fold-Piece ℕ ℕ ℕ ℕ expr_weight_step item_weight_step piece_weight_step stmt_weight_step

abbrev pub exprs_weight : List Expr → ℕ
exprs_weight xs = total (map expr_weight xs)

-- statements, and the turn that gives the last one's value; likewise pieces
abbrev pub stmts_weight : List Stmt → ℕ
stmts_weight xs = 2 + total (map stmt_weight xs)

abbrev pub items_weight : List Item → ℕ
items_weight xs = 2 + total (map item_weight xs)

abbrev pub pieces_weight : List Piece → ℕ
pieces_weight xs = 2 + total (map piece_weight xs)

-- what follows the condition of an `if`, an `&&` or an `||`
abbrev pub branches_weight : Expr-F Expr Item Piece Stmt → ℕ
branches_weight (F.If test then_ else_) = expr_weight then_ + expr_weight else_
branches_weight (F.And a b) = expr_weight b
branches_weight (F.Or a b) = expr_weight b
branches_weight _ = 0

abbrev pub frame_weight : Frame → ℕ
frame_weight (Args e vs xs) = 3 + exprs_weight xs
frame_weight (Testing e) = 1 + branches_weight (out-Expr e)
frame_weight (AfterStmt x xs) = stmts_weight xs
frame_weight (Block env) = 1
frame_weight (AfterItem x fresh w xs) = items_weight xs
frame_weight (Evaluated env bindings) = 1
frame_weight (Showing text xs line) = pieces_weight xs
frame_weight (Body w k env bindings) = 1

abbrev pub stack_weight : List Frame → ℕ
stack_weight [] = 0
stack_weight (f ∷ K) = frame_weight f + stack_weight K

abbrev pub work_weight : Work → ℕ
work_weight (Eval e) = expr_weight e
work_weight (Give v) = 1
work_weight (Leave v) = 1
work_weight (Acting e vs) = 3
work_weight (Calling f w vs) = 2
work_weight (Stmts xs v) = stmts_weight xs
work_weight (Items fresh xs v) = items_weight xs
work_weight (Defining site fresh xs) = 1 + items_weight xs
work_weight (Pieces text xs line) = pieces_weight xs
work_weight (Ended o) = 0
work_weight Lost = 0

abbrev pub load : Work → Now → ℕ
load w n = work_weight w + stack_weight n.stack

-- the heaviest body of a list of sites; a body that is not there weighs as `nothing`
abbrev pub heaviest : List Site → ℕ
heaviest [] = 2
heaviest (site ∷ sites) = max (expr_weight site.body) (heaviest sites)

-- the turns that are left at a point, at most, after so many calls: each call that may still be made is followed by a body
abbrev pub turns_left : Program → ℕ → ℕ → Work → Now → ℕ
turns_left P fuel calls w n = (fuel - calls) * heaviest P.sites + load w n
