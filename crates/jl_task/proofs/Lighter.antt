-- A turn of the machine's own keeps the worlds, and leaves fewer turns.
use Rattle.std.proofs.Common.{◌≡◌, ℕ, ◌+◌, ◌<◌, List, [], ◌∷◌, ◌++◌, Bool, true, false, refl, arith}
use Rattle.jl_program.specs.declared.value.Value.{Value}
use Rattle.jl_program.specs.declared.value.Value.TheVariants as V
use Rattle.jl_program.specs.declared.tree.Expr.{Expr, out-Expr}
use Rattle.jl_program.specs.declared.tree.Stmt.{Stmt, out-Stmt}
use Rattle.jl_program.specs.declared.tree.Item.{Item, out-Item}
use Rattle.jl_program.specs.declared.tree.Piece.{Piece, out-Piece}
use Rattle.jl_program.specs.declared.tree.Expr.TheOpen.{Expr-F, Stmt-F, Item-F, Piece-F}
use Rattle.jl_program.specs.declared.tree.Expr.TheOpen as F
use Rattle.jl_program.specs.declared.tree.Program.{Program}
use Rattle.jl_calculus.specs.declared.history.Outcome.{Outcome}
use Rattle.jl_calculus.specs.declared.history.Outcome.TheVariants as O
use Rattle.jl_task.specs.declared.point.Frame.{Frame}
use Rattle.jl_task.specs.declared.point.Frame.TheVariants.{Args, Testing, AfterStmt, Block, AfterItem, Evaluated, Showing, Body}
use Rattle.jl_task.specs.declared.point.Work.TheVariants.{Eval, Give, Leave, Stmts, Pieces}
use Rattle.jl_task.specs.declared.point.Now.{Now}
use Rattle.jl_task.specs.Turns.{Point, go_args, go_piece, go_pieces, expr_in, go_stmts, begun_layer, begun, branch, tested, after_stmt, after_item, taken, given, passed, left, answered}
use Rattle.jl_task.specs.Weight.{branches_weight, exprs_weight, stack_weight, stmt_weight, piece_weight, items_weight, stmts_weight, load}
use Rattle.jl_task.specs.Worlds.{IsWorld, AreWorlds, IsWithin}
use Rattle.jl_task.proofs.Weighing.{expr_layer, stmt_layer, piece_layer, expr_weighs, stmt_weighs, piece_weighs}

-- what a turn from this point keeps
abbrev Keeps : ℕ → Now → Point → Type 0
Keeps most n p = IsWorld n.world most → AreWorlds n.stack most → IsWithin most p

-- a turn to a point: it keeps the worlds and weighs at most so much
pub record Lighter (most : ℕ) (n : Now) (p : Point) (weight : ℕ) : Type 0 where
  pub worlds : Keeps most n p
  pub light : load p.0 p.1 < weight

module _ (most : ℕ) where
  -- the next part
  next_part : (e : Expr) (vs : List Value) (xs : List Expr) (n : Now) → Lighter most n (go_args e vs xs n) (4 + (exprs_weight xs + stack_weight n.stack))
  next_part e vs [] n = record { worlds = λ w ws. record { world = w; waiting = ws; called = tt }; light = omega arith }
  next_part e vs (x ∷ xs) n = record { worlds = λ w ws. record { world = w; waiting = ws; called = tt }; light = omega arith }

  -- an expression is begun
  begins : (e : Expr) (x : Expr-F Expr Item Piece Stmt) (n : Now) → out-Expr e ≡ x → Lighter most n (begun_layer e x n) (expr_layer x + stack_weight n.stack)
  begins e (F.Int i) n h = record { worlds = λ w ws. record { world = w; waiting = ws; called = tt }; light = omega arith }
  begins e (F.Bool b) n h = record { worlds = λ w ws. record { world = w; waiting = ws; called = tt }; light = omega arith }
  begins e F.Nothing n h = record { worlds = λ w ws. record { world = w; waiting = ws; called = tt }; light = omega arith }
  begins e (F.Local x) n h = record { worlds = λ w ws. record { world = w; waiting = ws; called = tt }; light = omega arith }
  begins e (F.Call f xs) n h = let a = next_part e [] xs n in record { worlds = a.worlds; light = omega (arith, a.light) }
  begins e (F.Latest f xs) n h = let a = next_part e [] xs n in record { worlds = a.worlds; light = omega (arith, a.light) }
  begins e (F.Make t xs) n h = let a = next_part e [] xs n in record { worlds = a.worlds; light = omega (arith, a.light) }
  begins e (F.Infer name xs) n h = let a = next_part e [] xs n in record { worlds = a.worlds; light = omega (arith, a.light) }
  begins e (F.Parts xs) n h = let a = next_part e [] xs n in record { worlds = a.worlds; light = omega (arith, a.light) }
  begins e (F.Field a name) n h = record { worlds = λ w ws. record { world = w; waiting = ws; called = tt }; light = omega arith }
  begins e (F.Part a i) n h = record { worlds = λ w ws. record { world = w; waiting = ws; called = tt }; light = omega arith }
  begins e (F.Egal a b c) n h = record { worlds = λ w ws. record { world = w; waiting = ws; called = tt }; light = omega arith }
  begins e (F.Isa a t) n h = record { worlds = λ w ws. record { world = w; waiting = ws; called = tt }; light = omega arith }
  begins e (F.Sub t u) n h = record { worlds = λ w ws. record { world = w; waiting = ws; called = tt }; light = omega arith }
  begins e (F.If a b c) n h = record { worlds = λ w ws. record { world = w; waiting = ws; called = tt }; light = rw h (omega arith) }
  begins e (F.And a b) n h = record { worlds = λ w ws. record { world = w; waiting = ws; called = tt }; light = rw h (omega arith) }
  begins e (F.Or a b) n h = record { worlds = λ w ws. record { world = w; waiting = ws; called = tt }; light = rw h (omega arith) }
  begins e (F.Block xs) n h = record { worlds = λ w ws. record { world = w; waiting = ws; called = tt }; light = omega arith }
  begins e (F.Eval xs) n h = record { worlds = λ w ws. record { world = w; waiting = ws; called = tt }; light = omega arith }
  begins e (F.Spawn place) n h = record { worlds = λ w ws. record { world = w; waiting = ws; called = tt }; light = omega arith }
  begins e (F.Delete place) n h = record { worlds = λ w ws. record { world = w; waiting = ws; called = tt }; light = omega arith }
  begins e (F.Fetch a) n h = record { worlds = λ w ws. record { world = w; waiting = ws; called = tt }; light = omega arith }
  begins e (F.Print ps line) n h = record { worlds = λ w ws. record { world = w; waiting = ws; called = tt }; light = omega arith }

  pub lighter_begun : (e : Expr) (n : Now) → Lighter most n (begun e n) (load (Eval e) n)
  lighter_begun e n = let b = begins e (out-Expr e) n refl in record { worlds = b.worlds; light = omega (arith, b.light, expr_weighs e) }

  -- the next piece
  piece_lighter : (text : List ℕ) (x : Piece) (xs : List Piece) (line : Bool) (y : Piece-F Expr Item Piece Stmt) (n : Now) → piece_weight x ≡ piece_layer y → Lighter most n (go_piece y text xs line n) (load (Pieces text (x ∷ xs) line) n)
  piece_lighter text x xs line (F.Text bytes) n e = record { worlds = λ w ws. record { world = w; waiting = ws; called = tt }; light = omega (arith, e) }
  piece_lighter text x xs line (F.Show a) n e = record { worlds = λ w ws. record { world = w; waiting = ws; called = tt }; light = omega (arith, e) }

  pub lighter_pieces : (text : List ℕ) (xs : List Piece) (line : Bool) (n : Now) → Lighter most n (go_pieces text xs line n) (load (Pieces text xs line) n)
  lighter_pieces text [] line n = record { worlds = λ w ws. record { world = w; waiting = ws; called = tt }; light = omega arith }
  lighter_pieces text (x ∷ xs) line n = piece_lighter text x xs line (out-Piece x) n (piece_weighs x)

  -- the next statement
  stmt_lighter : (x : Stmt) (xs : List Stmt) (v : Value) (y : Stmt-F Expr Item Piece Stmt) (n : Now) → stmt_weight x ≡ stmt_layer y → Lighter most n (Eval (expr_in y), record n { stack = AfterStmt x xs ∷ n.stack }) (load (Stmts (x ∷ xs) v) n)
  stmt_lighter x xs v (F.Stmt::Bind slot a) n e = record { worlds = λ w ws. record { world = w; waiting = ws; called = tt }; light = omega (arith, e) }
  stmt_lighter x xs v (F.Stmt::Do a) n e = record { worlds = λ w ws. record { world = w; waiting = ws; called = tt }; light = omega (arith, e) }
  stmt_lighter x xs v (F.Return a) n e = record { worlds = λ w ws. record { world = w; waiting = ws; called = tt }; light = omega (arith, e) }

  pub lighter_stmts : (xs : List Stmt) (v : Value) (n : Now) → Lighter most n (go_stmts xs v n) (load (Stmts xs v) n)
  lighter_stmts [] v n = record { worlds = λ w ws. record { world = w; waiting = ws; called = tt }; light = omega arith }
  lighter_stmts (x ∷ xs) v n = stmt_lighter x xs v (out-Stmt x) n (stmt_weighs x)

  branch_lighter : (x : Expr-F Expr Item Piece Stmt) (t : Bool) (n : Now) → Lighter most n (branch x t n) (2 + (branches_weight x + stack_weight n.stack))
  branch_lighter (F.If a b c) true n = record { worlds = λ w ws. record { world = w; waiting = ws; called = tt }; light = omega arith }
  branch_lighter (F.If a b c) false n = record { worlds = λ w ws. record { world = w; waiting = ws; called = tt }; light = omega arith }
  branch_lighter (F.And a b) true n = record { worlds = λ w ws. record { world = w; waiting = ws; called = tt }; light = omega arith }
  branch_lighter (F.And a b) false n = record { worlds = λ w ws. record { world = w; waiting = ws; called = tt }; light = omega arith }
  branch_lighter (F.Or a b) true n = record { worlds = λ w ws. record { world = w; waiting = ws; called = tt }; light = omega arith }
  branch_lighter (F.Or a b) false n = record { worlds = λ w ws. record { world = w; waiting = ws; called = tt }; light = omega arith }
  branch_lighter (F.Int i) t n = record { worlds = λ w ws. record { world = w; waiting = ws; called = tt }; light = omega arith }
  branch_lighter (F.Bool b) t n = record { worlds = λ w ws. record { world = w; waiting = ws; called = tt }; light = omega arith }
  branch_lighter F.Nothing t n = record { worlds = λ w ws. record { world = w; waiting = ws; called = tt }; light = omega arith }
  branch_lighter (F.Local x) t n = record { worlds = λ w ws. record { world = w; waiting = ws; called = tt }; light = omega arith }
  branch_lighter (F.Call f xs) t n = record { worlds = λ w ws. record { world = w; waiting = ws; called = tt }; light = omega arith }
  branch_lighter (F.Latest f xs) t n = record { worlds = λ w ws. record { world = w; waiting = ws; called = tt }; light = omega arith }
  branch_lighter (F.Make u xs) t n = record { worlds = λ w ws. record { world = w; waiting = ws; called = tt }; light = omega arith }
  branch_lighter (F.Infer name xs) t n = record { worlds = λ w ws. record { world = w; waiting = ws; called = tt }; light = omega arith }
  branch_lighter (F.Parts xs) t n = record { worlds = λ w ws. record { world = w; waiting = ws; called = tt }; light = omega arith }
  branch_lighter (F.Field a name) t n = record { worlds = λ w ws. record { world = w; waiting = ws; called = tt }; light = omega arith }
  branch_lighter (F.Part a i) t n = record { worlds = λ w ws. record { world = w; waiting = ws; called = tt }; light = omega arith }
  branch_lighter (F.Egal a b c) t n = record { worlds = λ w ws. record { world = w; waiting = ws; called = tt }; light = omega arith }
  branch_lighter (F.Isa a u) t n = record { worlds = λ w ws. record { world = w; waiting = ws; called = tt }; light = omega arith }
  branch_lighter (F.Sub u v) t n = record { worlds = λ w ws. record { world = w; waiting = ws; called = tt }; light = omega arith }
  branch_lighter (F.Block xs) t n = record { worlds = λ w ws. record { world = w; waiting = ws; called = tt }; light = omega arith }
  branch_lighter (F.Eval xs) t n = record { worlds = λ w ws. record { world = w; waiting = ws; called = tt }; light = omega arith }
  branch_lighter (F.Spawn place) t n = record { worlds = λ w ws. record { world = w; waiting = ws; called = tt }; light = omega arith }
  branch_lighter (F.Delete place) t n = record { worlds = λ w ws. record { world = w; waiting = ws; called = tt }; light = omega arith }
  branch_lighter (F.Fetch a) t n = record { worlds = λ w ws. record { world = w; waiting = ws; called = tt }; light = omega arith }
  branch_lighter (F.Print xs line) t n = record { worlds = λ w ws. record { world = w; waiting = ws; called = tt }; light = omega arith }

  tested_lighter : (x : Expr-F Expr Item Piece Stmt) (v : Value) (n : Now) → Lighter most n (tested x v n) (2 + (branches_weight x + stack_weight n.stack))
  tested_lighter x (V.Bool t) n = branch_lighter x t n
  tested_lighter x (V.Int i) n = record { worlds = λ w ws. record { world = w; waiting = ws; called = tt }; light = omega arith }
  tested_lighter x V.Nothing n = record { worlds = λ w ws. record { world = w; waiting = ws; called = tt }; light = omega arith }
  tested_lighter x (V.Task i) n = record { worlds = λ w ws. record { world = w; waiting = ws; called = tt }; light = omega arith }
  tested_lighter x (V.Tuple c) n = record { worlds = λ w ws. record { world = w; waiting = ws; called = tt }; light = omega arith }
  tested_lighter x (V.Struct c) n = record { worlds = λ w ws. record { world = w; waiting = ws; called = tt }; light = omega arith }

  after_stmt_lighter : (x : Stmt-F Expr Item Piece Stmt) (xs : List Stmt) (v : Value) (n : Now) → Lighter most n (after_stmt x xs v n) (1 + (stmts_weight xs + stack_weight n.stack))
  after_stmt_lighter (F.Stmt::Bind slot e) xs v n = record { worlds = λ w ws. record { world = w; waiting = ws; called = tt }; light = omega arith }
  after_stmt_lighter (F.Stmt::Do e) xs v n = record { worlds = λ w ws. record { world = w; waiting = ws; called = tt }; light = omega arith }
  after_stmt_lighter (F.Return e) xs v n = record { worlds = λ w ws. record { world = w; waiting = ws; called = tt }; light = omega arith }

  after_item_lighter : (x : Item-F Expr Item Piece Stmt) (fresh : Bool) (xs : List Item) (v : Value) (n : Now) → Lighter most n (after_item x fresh xs v n) (1 + (items_weight xs + stack_weight n.stack))
  after_item_lighter (F.Define site) fresh xs v n = record { worlds = λ w ws. record { world = w; waiting = ws; called = tt }; light = omega arith }
  after_item_lighter (F.Item::Bind slot e) fresh xs v n = record { worlds = λ w ws. record { world = w; waiting = ws; called = tt }; light = omega arith }
  after_item_lighter (F.Item::Do e) fresh xs v n = record { worlds = λ w ws. record { world = w; waiting = ws; called = tt }; light = omega arith }

  -- a turn to a point, from one with a frame on top
  record Falls (f : Frame) (n : Now) (p : Point) : Type 0 where
    worlds : IsWorld n.world most → AreWorlds (f ∷ n.stack) most → IsWithin most p
    light : load p.0 p.1 < 1 + stack_weight (f ∷ n.stack)

  taken_lighter : (P : Program) (f : Frame) (v : Value) (n : Now) → Falls f n (taken P f v n)
  taken_lighter P (Args e vs xs) v n = let a = next_part e (vs ++ v ∷ []) xs n in record { worlds = a.worlds; light = omega (arith, a.light) }
  taken_lighter P (Testing e) v n = let a = tested_lighter (out-Expr e) v n in record { worlds = a.worlds; light = omega (arith, a.light) }
  taken_lighter P (AfterStmt x xs) v n = let a = after_stmt_lighter (out-Stmt x) xs v n in record { worlds = a.worlds; light = omega (arith, a.light) }
  taken_lighter P (Block env) v n = record { worlds = λ w ws. record { world = w; waiting = ws; called = tt }; light = omega arith }
  taken_lighter P (AfterItem x fresh w xs) v n = let a = after_item_lighter (out-Item x) fresh xs v (record n { world = w }) in record { worlds = λ w ws. a.worlds ws.0 ws.1; light = omega (arith, a.light) }
  taken_lighter P (Evaluated env bindings) v n = record { worlds = λ w ws. record { world = w; waiting = ws; called = tt }; light = omega arith }
  taken_lighter P (Showing text xs line) v n = record { worlds = λ w ws. record { world = w; waiting = ws; called = tt }; light = omega arith }
  taken_lighter P (Body w k env bindings) v n = record { worlds = λ w ws. record { world = ws.0; waiting = ws.1; called = tt }; light = omega arith }

  passed_lighter : (f : Frame) (v : Value) (n : Now) → Falls f n (passed f v n)
  passed_lighter (Args e vs xs) v n = record { worlds = λ w ws. record { world = w; waiting = ws; called = tt }; light = omega arith }
  passed_lighter (Testing e) v n = record { worlds = λ w ws. record { world = w; waiting = ws; called = tt }; light = omega arith }
  passed_lighter (AfterStmt x xs) v n = record { worlds = λ w ws. record { world = w; waiting = ws; called = tt }; light = omega arith }
  passed_lighter (Block env) v n = record { worlds = λ w ws. record { world = w; waiting = ws; called = tt }; light = omega arith }
  passed_lighter (AfterItem x fresh w xs) v n = record { worlds = λ w ws. record { world = ws.0; waiting = ws.1; called = tt }; light = omega arith }
  passed_lighter (Evaluated env bindings) v n = record { worlds = λ w ws. record { world = w; waiting = ws; called = tt }; light = omega arith }
  passed_lighter (Showing text xs line) v n = record { worlds = λ w ws. record { world = w; waiting = ws; called = tt }; light = omega arith }
  passed_lighter (Body w k env bindings) v n = record { worlds = λ w ws. record { world = ws.0; waiting = ws.1; called = tt }; light = omega arith }

  given_at : (P : Program) (K : List Frame) (v : Value) (n : Now) → n.stack ≡ K → Lighter most n (given P K v n) (1 + stack_weight K)
  given_at P [] v n e = record { worlds = λ w ws. record { world = w; waiting = ws; called = tt }; light = rw e (omega arith) }
  given_at P (f ∷ K) v n e = let k = taken_lighter P f v (record n { stack = K }) in record { worlds = λ w ws. k.worlds w (rw e at ws); light = k.light }

  pub lighter_given : (P : Program) (v : Value) (n : Now) → Lighter most n (given P n.stack v n) (load (Give v) n)
  lighter_given P v n = given_at P n.stack v n refl

  left_at : (K : List Frame) (v : Value) (n : Now) → n.stack ≡ K → Lighter most n (left K v n) (1 + stack_weight K)
  left_at [] v n e = record { worlds = λ w ws. record { world = w; waiting = ws; called = tt }; light = rw e (omega arith) }
  left_at (f ∷ K) v n e = let k = passed_lighter f v (record n { stack = K }) in record { worlds = λ w ws. k.worlds w (rw e at ws); light = k.light }

  pub lighter_left : (v : Value) (n : Now) → Lighter most n (left n.stack v n) (load (Leave v) n)
  lighter_left v n = left_at n.stack v n refl

  pub lighter_answered : (o : Outcome) (n : Now) → Lighter most n (answered o, n) (2 + stack_weight n.stack)
  lighter_answered (O.Value v) n = record { worlds = λ w ws. record { world = w; waiting = ws; called = tt }; light = omega arith }
  lighter_answered (O.Error e) n = record { worlds = λ w ws. record { world = w; waiting = ws; called = tt }; light = omega arith }
