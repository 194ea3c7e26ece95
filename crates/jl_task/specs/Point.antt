-- What is left to do at a point, by the calculus.
use Rattle.std.specs.Prelude.{ℕ, List, [], ◌∷◌, ◌++◌, Bool, true, false, get_or}
use Rattle.jl_program.specs.declared.value.Value.{Value}
use Rattle.jl_program.specs.declared.value.Value.TheVariants as V
use Rattle.jl_calculus.specs.declared.history.TraceItem.{TraceItem}
use Rattle.jl_calculus.specs.declared.history.Outcome.{Outcome}
use Rattle.jl_calculus.specs.declared.history.Outcome.TheVariants as O
use Rattle.jl_program.specs.declared.tree.Expr.{Expr, out-Expr}
use Rattle.jl_program.specs.declared.tree.Stmt.{Stmt, out-Stmt}
use Rattle.jl_program.specs.declared.tree.Item.{Item, out-Item}
use Rattle.jl_program.specs.declared.tree.Piece.{Piece}
use Rattle.jl_program.specs.declared.tree.Expr.TheOpen.{Expr-F, Stmt-F, Item-F}
use Rattle.jl_program.specs.declared.tree.Expr.TheOpen as F
use Rattle.jl_program.specs.declared.tree.Start.{Start}
use Rattle.jl_task.specs.declared.point.Frame.{Frame}
use Rattle.jl_task.specs.declared.point.Frame.TheVariants.{Args, Testing, AfterStmt, Block, AfterItem, Evaluated, Showing, Body}
use Rattle.jl_task.specs.declared.point.Work.{Work}
use Rattle.jl_task.specs.declared.point.Work.TheVariants.{Eval, Give, Leave, Acting, Calling, Stmts, Items, Defining, Pieces, Ended, Lost}
use Rattle.jl_task.specs.declared.point.Now.{Now}
use Rattle.jl_program.specs.Scope.{all_types}
use Rattle.jl_program.specs.Text.{value_text}
use Rattle.jl_calculus.specs.Operations.{field_of, part_of, make_tuple, make_written, make_inferred, test_type, test_order, test_same}
use Rattle.jl_calculus.specs.Run.{Setting, State, with_scope, with_env, binds, start_at, prints, newline, Then, ItemRuns, PieceRuns, either, decides, answers, operation_runs, spawns, fetches_value, looks, each_runs, stmts_run, texts_run, items_run, defines, deletes, runs, runs_stmt, runs_item, runs_piece, calls}
use Rattle.jl_task.specs.Turns.{Point}

-- a part that is there
abbrev pub value_at : List Value → ℕ → Value
value_at vs i = get_or vs i V.Nothing

module _ (g : Setting) (Ends : Outcome → State → Type 0) where
  abbrev run : ℕ → Expr → ℕ → State → Then → Then → Type 0
  run k = runs g Ends (calls g Ends k)

  abbrev run_stmt : ℕ → Stmt → ℕ → State → Then → Then → Type 0
  run_stmt k = runs_stmt g Ends (calls g Ends k)

  -- a statement at the top or of an evaluated block; each of the latter sees no names
  abbrev pub run_item : Bool → ℕ → Item → ItemRuns
  run_item true k = λ x s. runs_item g Ends (calls g Ends k) x (with_scope s [] [])
  run_item false k = runs_item g Ends (calls g Ends k)

  abbrev run_piece : ℕ → Piece → PieceRuns
  run_piece k = runs_piece g Ends (calls g Ends k)

  -- what a form does once its parts have these values, in a world with room for so many open calls; the other forms do not wait for parts
  abbrev pub acts_layer : Expr-F Expr Item Piece Stmt → List Value → ℕ → ℕ → State → Then → Type 0
  acts_layer (F.Call f xs) vs w k s next = calls g Ends k f vs w s next
  acts_layer (F.Latest f xs) vs w k s next = looks g Ends s.left s (λ newest s1. calls g Ends k f vs newest s1 next)
  acts_layer (F.Make t xs) vs w k s next = operation_runs g Ends (make_written (all_types g.program) s.bindings t vs) s next
  acts_layer (F.Infer name xs) vs w k s next = operation_runs g Ends (make_inferred (all_types g.program) name vs) s next
  acts_layer (F.Parts xs) vs w k s next = operation_runs g Ends (make_tuple (all_types g.program) vs) s next
  acts_layer (F.Field a name) vs w k s next = answers g Ends (field_of (all_types g.program) name (value_at vs 0)) s next
  acts_layer (F.Part a number) vs w k s next = answers g Ends (part_of (all_types g.program) number (value_at vs 0)) s next
  acts_layer (F.Egal a b negated) vs w k s next = operation_runs g Ends (test_same negated (value_at vs 0) (value_at vs 1)) s next
  acts_layer (F.Isa a t) vs w k s next = operation_runs g Ends (test_type (all_types g.program) s.bindings (value_at vs 0) t) s next
  acts_layer (F.Sub t u) vs w k s next = operation_runs g Ends (test_order (all_types g.program) s.bindings t u) s next
  acts_layer (F.Spawn place) vs w k s next = spawns g Ends s.left (start_at place w s) s next
  acts_layer (F.Delete place) vs w k s next = deletes g Ends s.left place s (λ s1. next V.Nothing s1)
  acts_layer (F.Fetch a) vs w k s next = fetches_value g Ends (value_at vs 0) s next
  acts_layer (F.Int n) vs w k s next = ⊥
  acts_layer (F.Bool b) vs w k s next = ⊥
  acts_layer F.Nothing vs w k s next = ⊥
  acts_layer (F.Local x) vs w k s next = ⊥
  acts_layer (F.If test then_ else_) vs w k s next = ⊥
  acts_layer (F.And a b) vs w k s next = ⊥
  acts_layer (F.Or a b) vs w k s next = ⊥
  acts_layer (F.Block xs) vs w k s next = ⊥
  acts_layer (F.Eval xs) vs w k s next = ⊥
  acts_layer (F.Print ps line) vs w k s next = ⊥

  abbrev pub acts : Expr → List Value → ℕ → ℕ → State → Then → Type 0
  acts e = acts_layer (out-Expr e)

  -- the branch that a condition takes; no other form waits for a condition
  abbrev pub branches : Expr-F Expr Item Piece Stmt → Bool → ℕ → ℕ → State → Then → Then → Type 0
  branches (F.If test then_ else_) t w k s back next = either t (run k then_ w s back next) (run k else_ w s back next)
  branches (F.And a b) t w k s back next = either t (run k b w s back next) (next (V.Bool false) s)
  branches (F.Or a b) t w k s back next = either t (next (V.Bool true) s) (run k b w s back next)
  branches _ t w k s back next = ⊥

  abbrev pub items_left : Bool → ℕ → List Item → Value → State → Then → Then → Type 0
  items_left fresh k xs v s back next = items_run (run_item fresh k) xs v s back next

  abbrev pub stmts_left : ℕ → List Stmt → Value → ℕ → State → Then → Then → Type 0
  stmts_left k xs v w s back next = stmts_run (run_stmt k) xs v w s back next

  -- what follows the value of a statement
  abbrev pub after_stmt_runs : Stmt-F Expr Item Piece Stmt → List Stmt → ℕ → ℕ → Value → State → Then → Then → Type 0
  after_stmt_runs (F.Stmt::Bind slot e) xs w k v s back next = stmts_left k xs v w (binds s slot v) back next
  after_stmt_runs (F.Stmt::Do e) xs w k v s back next = stmts_left k xs v w s back next
  after_stmt_runs (F.Return e) xs w k v s back next = back v s

  abbrev pub after_item_runs : Item-F Expr Item Piece Stmt → Bool → List Item → ℕ → Value → State → Then → Then → Type 0
  after_item_runs (F.Define site) fresh xs k v s back next = items_left fresh k xs v s back next
  after_item_runs (F.Item::Bind slot e) fresh xs k v s back next = items_left fresh k xs v (binds s slot v) back next
  after_item_runs (F.Item::Do e) fresh xs k v s back next = items_left fresh k xs v s back next

  abbrev mutual
    -- what follows a value
    pub gives : List Frame → ℕ → ℕ → Then
    gives [] w k v s = Ends (O.Value v) s
    gives (Args e done xs ∷ K) w k v s = each_runs (run k) xs (done ++ v ∷ []) w s (leaves K w k) (λ vs s1. acts e vs w k s1 (gives K w k))
    gives (Testing e ∷ K) w k v s = decides g Ends v s (λ t. branches (out-Expr e) t w k s (leaves K w k) (gives K w k))
    gives (AfterStmt x xs ∷ K) w k v s = after_stmt_runs (out-Stmt x) xs w k v s (leaves K w k) (gives K w k)
    gives (Block env ∷ K) w k v s = gives K w k v (with_env s env)
    gives (AfterItem x fresh w0 xs ∷ K) w k v s = after_item_runs (out-Item x) fresh xs k v s (leaves K w0 k) (gives K w0 k)
    gives (Evaluated env bindings ∷ K) w k v s = gives K w k v (with_scope s env bindings)
    gives (Showing text xs line ∷ K) w k v s =
        texts_run (run_piece k) xs (text ++ value_text g.program v) w s (leaves K w k) (λ t s1. gives K w k V.Nothing (prints s1 (t ++ newline line)))
    gives (Body w0 k0 env bindings ∷ K) w k v s = gives K w0 k0 v (with_scope s env bindings)

    -- what follows a return
    pub leaves : List Frame → ℕ → ℕ → Then
    leaves [] w k v s = Ends (O.Value v) s
    leaves (Args e done xs ∷ K) w k v s = leaves K w k v s
    leaves (Testing e ∷ K) w k v s = leaves K w k v s
    leaves (AfterStmt x xs ∷ K) w k v s = leaves K w k v s
    leaves (Block env ∷ K) w k v s = leaves K w k v s
    leaves (AfterItem x fresh w0 xs ∷ K) w k v s = leaves K w0 k v s
    leaves (Evaluated env bindings ∷ K) w k v s = leaves K w k v s
    leaves (Showing text xs line ∷ K) w k v s = leaves K w k v s
    leaves (Body w0 k0 env bindings ∷ K) w k v s = gives K w0 k0 v (with_scope s env bindings)

  abbrev pub finishes : Work → List Frame → ℕ → ℕ → State → Type 0
  finishes (Eval e) K w k s = run k e w s (leaves K w k) (gives K w k)
  finishes (Give v) K w k s = gives K w k v s
  finishes (Leave v) K w k s = leaves K w k v s
  finishes (Acting e vs) K w k s = acts e vs w k s (gives K w k)
  finishes (Calling f w1 vs) K w k s = calls g Ends k f vs w1 s (gives K w k)
  finishes (Stmts xs v) K w k s = stmts_left k xs v w s (leaves K w k) (gives K w k)
  finishes (Items fresh xs v) K w k s = items_left fresh k xs v s (leaves K w k) (gives K w k)
  finishes (Defining site fresh xs) K w k s = defines g Ends s.left site s (λ s1. items_left fresh k xs V.Nothing s1 (leaves K w k) (gives K w k))
  finishes (Pieces text xs line) K w k s = texts_run (run_piece k) xs text w s (leaves K w k) (λ t s1. gives K w k V.Nothing (prints s1 (t ++ newline line)))
  finishes (Ended o) K w k s = Ends o s
  finishes Lost K w k s = ⊥

-- the state at a point, with these calls made, these tasks spawned and this trace to come
abbrev pub state_of : Now → ℕ → List Start → List TraceItem → State
state_of n made starts rest = record { env = n.env; bindings = n.bindings; left = rest; calls = made; out = n.out; starts = starts }

-- what the rules still do from a point
abbrev pub Finishes : Setting → (Outcome → State → Type 0) → Point → ℕ → List Start → List TraceItem → Type 0
Finishes g Ends (work, n) made starts rest = finishes g Ends work n.stack n.world n.room (state_of n made starts rest)
