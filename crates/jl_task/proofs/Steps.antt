-- Each turn of the machine's own leaves to do exactly what was to do before it: one equation between the facts, for both directions.
use Rattle.std.proofs.Common.{◌≡◌, refl, sym, ap, ◌∙◌, ℕ, List, [], ◌∷◌, ◌++◌, Bool, true, false}
use Rattle.jl_program.specs.declared.value.Value.{Value}
use Rattle.jl_program.specs.declared.value.Value.TheVariants as V
use Rattle.jl_calculus.specs.declared.history.TraceItem.{TraceItem}
use Rattle.jl_calculus.specs.declared.history.Outcome.{Outcome}
use Rattle.jl_calculus.specs.declared.history.Outcome.TheVariants as O
use Rattle.jl_program.specs.declared.tree.Expr.{Expr, out-Expr}
use Rattle.jl_program.specs.declared.tree.Stmt.{Stmt, out-Stmt}
use Rattle.jl_program.specs.declared.tree.Item.{Item, out-Item}
use Rattle.jl_program.specs.declared.tree.Piece.{Piece, out-Piece}
use Rattle.jl_program.specs.declared.tree.Expr.TheOpen.{Expr-F, Stmt-F, Item-F, Piece-F}
use Rattle.jl_program.specs.declared.tree.Expr.TheOpen as F
use Rattle.jl_program.specs.declared.tree.Start.{Start}
use Rattle.jl_task.specs.declared.point.Frame.{Frame}
use Rattle.jl_task.specs.declared.point.Frame.TheVariants.{Args, Testing, AfterStmt, Block, AfterItem, Evaluated, Showing, Body}
use Rattle.jl_task.specs.declared.point.Work.TheVariants.{Eval, Stmts, Items, Pieces}
use Rattle.jl_task.specs.declared.point.Now.{Now}
use Rattle.jl_calculus.specs.Run.{Setting, State, with_scope, prints, newline, Then, Runs, ItemRuns, PieceRuns, Caller, each_runs, texts_run, items_run, decides, answers, runs, runs_stmt, runs_item, runs_piece, calls, expr_runs, stmt_runs, item_runs, piece_runs}
use Rattle.jl_task.specs.Turns.{Point, go_args, go_piece, go_pieces, expr_in, go_stmts, begun_layer, begun, branch, tested, after_stmt, after_item, taken, given, passed, left, answered}
use Rattle.jl_task.specs.Point.{acts_layer, branches, items_left, stmts_left, after_stmt_runs, after_item_runs, gives, leaves, state_of, Finishes}
use Rattle.jl_calculus.proofs.Layers.{runs_is, stmt_is, item_is, piece_is}

-- the state in which a statement at the top or of an evaluated block begins
abbrev pub scoped_state : Bool → State → State
scoped_state true s = with_scope s [] []
scoped_state false s = s

module _ (g : Setting) (Ends : Outcome → State → Type 0) (made : ℕ) (starts : List Start) (rest : List TraceItem) where
  module _ (n : Now) where
    abbrev s : State
    s = state_of n made starts rest

    abbrev back : Then
    back = leaves g Ends n.stack n.world n.room

    abbrev next : Then
    next = gives g Ends n.stack n.world n.room

    abbrev called : Caller
    called = calls g Ends n.room

    abbrev done : Point → Type 0
    done p = Finishes g Ends p made starts rest

    -- all parts of an expression have values, and it does what its layer does
    abbrev acting : Expr-F Expr Item Piece Stmt → List Value → State → Type 0
    acting x vs s1 = acts_layer g Ends x vs n.world n.room s1 next

    args_same : (e : Expr) (vs : List Value) (xs : List Expr) → done (go_args e vs xs n) ≡ each_runs (runs g Ends called) xs vs n.world s back (acting (out-Expr e))
    args_same e vs [] = refl
    args_same e vs (x ∷ xs) = refl

    -- the parts, for a form that is known
    known_args : (e : Expr) (x : Expr-F Expr Item Piece Stmt) (xs : List Expr) → out-Expr e ≡ x → done (go_args e [] xs n) ≡ each_runs (runs g Ends called) xs [] n.world s back (acting x)
    known_args e x xs h = args_same e [] xs ∙ ap (λ y. each_runs (runs g Ends called) xs [] n.world s back (acting y)) h

    piece_same : (x : Piece-F Expr Item Piece Stmt) (text : List ℕ) (xs : List Piece) (line : Bool) → done (go_piece x text xs line n) ≡ piece_runs g Ends called (runs g Ends called) (runs_item g Ends called) (runs_piece g Ends called) (runs_stmt g Ends called) x n.world s back (λ t s1. texts_run (runs_piece g Ends called) xs (text ++ t) n.world s1 back (λ u s2. next V.Nothing (prints s2 (u ++ newline line))))
    piece_same (F.Text bytes) text xs line = refl
    piece_same (F.Show e) text xs line = refl

    pub pieces_same : (text : List ℕ) (xs : List Piece) (line : Bool) → done (go_pieces text xs line n) ≡ done (Pieces text xs line, n)
    pieces_same text [] line = refl
    pieces_same text (x ∷ xs) line = piece_same (out-Piece x) text xs line ∙ sym (ap (λ (q : PieceRuns). q n.world s back (λ t s1. texts_run (runs_piece g Ends called) xs (text ++ t) n.world s1 back (λ u s2. next V.Nothing (prints s2 (u ++ newline line))))) (piece_is g Ends called x))

    -- an evaluated block sees no names
    eval_same : (e : Expr) (xs : List Item) → done (begun_layer e (F.Eval xs) n) ≡ items_run (λ x s1. runs_item g Ends called x (with_scope s1 [] [])) xs V.Nothing s back (λ v s1. next v (with_scope s1 s.env s.bindings))
    eval_same e [] = refl
    eval_same e (x ∷ xs) = refl

    -- the forms that are begun
    layer_same : (e : Expr) (x : Expr-F Expr Item Piece Stmt) → out-Expr e ≡ x → done (begun_layer e x n) ≡ expr_runs g Ends called (runs g Ends called) (runs_item g Ends called) (runs_piece g Ends called) (runs_stmt g Ends called) x n.world s back next
    layer_same e (F.Int i) h = refl
    layer_same e (F.Bool b) h = refl
    layer_same e F.Nothing h = refl
    layer_same e (F.Local x) h = refl
    layer_same e (F.Call f xs) h = known_args e (F.Call f xs) xs h
    layer_same e (F.Latest f xs) h = known_args e (F.Latest f xs) xs h
    layer_same e (F.Make t xs) h = known_args e (F.Make t xs) xs h
    layer_same e (F.Infer name xs) h = known_args e (F.Infer name xs) xs h
    layer_same e (F.Parts xs) h = known_args e (F.Parts xs) xs h
    layer_same e (F.Field a name) h = ap (λ y. runs g Ends called a n.world s back (λ v s1. acting y (v ∷ []) s1)) h
    layer_same e (F.Part a i) h = ap (λ y. runs g Ends called a n.world s back (λ v s1. acting y (v ∷ []) s1)) h
    layer_same e (F.Egal a b c) h = ap (λ y. runs g Ends called a n.world s back (λ u s1. runs g Ends called b n.world s1 back (λ v s2. acting y (u ∷ v ∷ []) s2))) h
    layer_same e (F.Isa a t) h = ap (λ y. runs g Ends called a n.world s back (λ v s1. acting y (v ∷ []) s1)) h
    layer_same e (F.Sub t u) h = ap (λ y. acting y [] s) h
    layer_same e (F.If a b c) h = ap (λ y. runs g Ends called a n.world s back (λ v s1. decides g Ends v s1 (λ t. branches g Ends y t n.world n.room s1 back next))) h
    layer_same e (F.And a b) h = ap (λ y. runs g Ends called a n.world s back (λ v s1. decides g Ends v s1 (λ t. branches g Ends y t n.world n.room s1 back next))) h
    layer_same e (F.Or a b) h = ap (λ y. runs g Ends called a n.world s back (λ v s1. decides g Ends v s1 (λ t. branches g Ends y t n.world n.room s1 back next))) h
    layer_same e (F.Block xs) h = refl
    layer_same e (F.Eval xs) h = eval_same e xs
    layer_same e (F.Spawn place) h = ap (λ y. acting y [] s) h
    layer_same e (F.Delete place) h = ap (λ y. acting y [] s) h
    layer_same e (F.Fetch a) h = ap (λ y. runs g Ends called a n.world s back (λ v s1. acting y (v ∷ []) s1)) h
    layer_same e (F.Print xs line) h = refl

    pub begun_same : (e : Expr) → done (begun e n) ≡ done (Eval e, n)
    begun_same e = layer_same e (out-Expr e) refl ∙ sym (ap (λ (q : Runs). q n.world s back next) (runs_is g Ends called e))

    stmt_same : (x : Stmt) (y : Stmt-F Expr Item Piece Stmt) (xs : List Stmt) → out-Stmt x ≡ y
        → runs g Ends called (expr_in y) n.world s back (λ v s1. after_stmt_runs g Ends (out-Stmt x) xs n.world n.room v s1 back next)
        ≡ stmt_runs g Ends called (runs g Ends called) (runs_item g Ends called) (runs_piece g Ends called) (runs_stmt g Ends called) y n.world s back (λ v s1. stmts_left g Ends n.room xs v n.world s1 back next)
    stmt_same x (F.Stmt::Bind slot e) xs h = ap (λ y. runs g Ends called e n.world s back (λ v s1. after_stmt_runs g Ends y xs n.world n.room v s1 back next)) h
    stmt_same x (F.Stmt::Do e) xs h = ap (λ y. runs g Ends called e n.world s back (λ v s1. after_stmt_runs g Ends y xs n.world n.room v s1 back next)) h
    stmt_same x (F.Return e) xs h = ap (λ y. runs g Ends called e n.world s back (λ v s1. after_stmt_runs g Ends y xs n.world n.room v s1 back next)) h

    pub stmts_same : (xs : List Stmt) (v : Value) → done (go_stmts xs v n) ≡ done (Stmts xs v, n)
    stmts_same [] v = refl
    stmts_same (x ∷ xs) v = stmt_same x (out-Stmt x) xs refl ∙ sym (ap (λ (q : Runs). q n.world s back (λ u s1. stmts_left g Ends n.room xs u n.world s1 back next)) (stmt_is g Ends called x))

    item_same : (fresh : Bool) (x : Item) (xs : List Item) (v : Value) → done (Items fresh (x ∷ xs) v, n) ≡ runs_item g Ends called x (scoped_state fresh s) back (λ u s1. items_left g Ends fresh n.room xs u s1 back next)
    item_same true x xs v = refl
    item_same false x xs v = refl

    -- the first of some statements, by its layer
    pub items_same : (fresh : Bool) (x : Item) (xs : List Item) (v : Value) → done (Items fresh (x ∷ xs) v, n)
        ≡ item_runs g Ends called (runs g Ends called) (runs_item g Ends called) (runs_piece g Ends called) (runs_stmt g Ends called) (out-Item x) (scoped_state fresh s) back (λ u s1. items_left g Ends fresh n.room xs u s1 back next)
    items_same fresh x xs v = item_same fresh x xs v ∙ ap (λ (q : ItemRuns). q (scoped_state fresh s) back (λ u s1. items_left g Ends fresh n.room xs u s1 back next)) (item_is g Ends called x)

    branch_same : (x : Expr-F Expr Item Piece Stmt) (t : Bool) → done (branch x t n) ≡ branches g Ends x t n.world n.room s back next
    branch_same (F.If a b c) true = refl
    branch_same (F.If a b c) false = refl
    branch_same (F.And a b) true = refl
    branch_same (F.And a b) false = refl
    branch_same (F.Or a b) true = refl
    branch_same (F.Or a b) false = refl
    branch_same (F.Int i) t = refl
    branch_same (F.Bool b) t = refl
    branch_same F.Nothing t = refl
    branch_same (F.Local x) t = refl
    branch_same (F.Call f xs) t = refl
    branch_same (F.Latest f xs) t = refl
    branch_same (F.Make u xs) t = refl
    branch_same (F.Infer name xs) t = refl
    branch_same (F.Parts xs) t = refl
    branch_same (F.Field a name) t = refl
    branch_same (F.Part a i) t = refl
    branch_same (F.Egal a b c) t = refl
    branch_same (F.Isa a u) t = refl
    branch_same (F.Sub u v) t = refl
    branch_same (F.Block xs) t = refl
    branch_same (F.Eval xs) t = refl
    branch_same (F.Spawn place) t = refl
    branch_same (F.Delete place) t = refl
    branch_same (F.Fetch a) t = refl
    branch_same (F.Print xs line) t = refl

    tested_same : (x : Expr-F Expr Item Piece Stmt) (v : Value) → done (tested x v n) ≡ decides g Ends v s (λ t. branches g Ends x t n.world n.room s back next)
    tested_same x (V.Bool t) = branch_same x t
    tested_same x (V.Int i) = refl
    tested_same x V.Nothing = refl
    tested_same x (V.Task i) = refl
    tested_same x (V.Tuple c) = refl
    tested_same x (V.Struct c) = refl

    after_stmt_same : (x : Stmt-F Expr Item Piece Stmt) (xs : List Stmt) (v : Value) → done (after_stmt x xs v n) ≡ after_stmt_runs g Ends x xs n.world n.room v s back next
    after_stmt_same (F.Stmt::Bind slot e) xs v = refl
    after_stmt_same (F.Stmt::Do e) xs v = refl
    after_stmt_same (F.Return e) xs v = refl

    after_item_same : (x : Item-F Expr Item Piece Stmt) (fresh : Bool) (xs : List Item) (v : Value) → done (after_item x fresh xs v n) ≡ after_item_runs g Ends x fresh xs n.room v s back next
    after_item_same (F.Define site) fresh xs v = refl
    after_item_same (F.Item::Bind slot e) fresh xs v = refl
    after_item_same (F.Item::Do e) fresh xs v = refl

    pub answered_same : (o : Outcome) → done (answered o, n) ≡ answers g Ends o s next
    answered_same (O.Value v) = refl
    answered_same (O.Error e) = refl

  taken_same : (f : Frame) (v : Value) (n : Now) → Finishes g Ends (taken g.program f v n) made starts rest ≡ gives g Ends (f ∷ n.stack) n.world n.room v (state_of n made starts rest)
  taken_same (Args e vs xs) v n = args_same n e (vs ++ v ∷ []) xs
  taken_same (Testing e) v n = tested_same n (out-Expr e) v
  taken_same (AfterStmt x xs) v n = after_stmt_same n (out-Stmt x) xs v
  taken_same (Block env) v n = refl
  taken_same (AfterItem x fresh w xs) v n = after_item_same (record n { world = w }) (out-Item x) fresh xs v
  taken_same (Evaluated env bindings) v n = refl
  taken_same (Showing text xs line) v n = refl
  taken_same (Body w k env bindings) v n = refl

  pub given_same : (K : List Frame) (v : Value) (n : Now) → Finishes g Ends (given g.program K v n) made starts rest ≡ gives g Ends K n.world n.room v (state_of n made starts rest)
  given_same [] v n = refl
  given_same (f ∷ K) v n = taken_same f v (record n { stack = K })

  passed_same : (f : Frame) (v : Value) (n : Now) → Finishes g Ends (passed f v n) made starts rest ≡ leaves g Ends (f ∷ n.stack) n.world n.room v (state_of n made starts rest)
  passed_same (Args e vs xs) v n = refl
  passed_same (Testing e) v n = refl
  passed_same (AfterStmt x xs) v n = refl
  passed_same (Block env) v n = refl
  passed_same (AfterItem x fresh w xs) v n = refl
  passed_same (Evaluated env bindings) v n = refl
  passed_same (Showing text xs line) v n = refl
  passed_same (Body w k env bindings) v n = refl

  pub left_same : (K : List Frame) (v : Value) (n : Now) → Finishes g Ends (left K v n) made starts rest ≡ leaves g Ends K n.world n.room v (state_of n made starts rest)
  left_same [] v n = refl
  left_same (f ∷ K) v n = passed_same f v (record n { stack = K })
