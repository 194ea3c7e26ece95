-- What a part of the tree runs as is what its layer runs as.
use Rattle.std.proofs.Common.{◌≡◌, List, [], ◌∷◌, ◌++◌, map, refl, sym, ap, ◌∙◌}
use Rattle.jl_program.specs.declared.value.Value.TheVariants as V
use Rattle.jl_calculus.specs.declared.history.Outcome.{Outcome}
use Rattle.jl_program.specs.declared.tree.Expr.{Expr, out-Expr, roll-out-Expr}
use Rattle.jl_program.specs.declared.tree.Item.{Item, out-Item, roll-out-Item}
use Rattle.jl_program.specs.declared.tree.Piece.{Piece, out-Piece, roll-out-Piece}
use Rattle.jl_program.specs.declared.tree.Stmt.{Stmt, out-Stmt, roll-out-Stmt}
use Rattle.jl_program.specs.declared.tree.Expr.TheOpen.{Expr-F, Stmt-F, Item-F, Piece-F}
use Rattle.jl_program.specs.declared.tree.Expr.TheOpen as F
use Rattle.jl_program.specs.declared.tree.Expr.TheFolds.{map-Expr, map-Stmt, map-Item, map-Piece, rec-roll-Expr, rec-roll-Item, rec-roll-Piece, rec-roll-Stmt}
use Rattle.jl_program.specs.Scope.{all_types}
use Rattle.jl_calculus.specs.Operations.{make_tuple, make_written, make_inferred}
use Rattle.jl_calculus.specs.Run.{Setting, State, Runs, ItemRuns, PieceRuns, Caller, each_runs, texts_run, stmts_run, items_run, with_scope, with_env, looks, operation_runs, expr_runs, stmt_runs, item_runs, piece_runs, runs, runs_stmt, runs_item, runs_piece, prints, newline}

module _ {X Y : Type 0} (v : X → Y) where
  each_natural : (k : Y → Runs) (xs : List X) → each_runs (λ x. k (v x)) xs ≡ each_runs k (map v xs)
  each_natural k [] = refl
  each_natural k (x ∷ xs) = λ i. λ done w s back next. k (v x) w s back (λ u s1. each_natural k xs i (done ++ u ∷ []) w s1 back next)

  texts_natural : (k : Y → PieceRuns) (xs : List X) → texts_run (λ x. k (v x)) xs ≡ texts_run k (map v xs)
  texts_natural k [] = refl
  texts_natural k (x ∷ xs) = λ i. λ text w s back next. k (v x) w s back (λ t s1. texts_natural k xs i (text ++ t) w s1 back next)

  stmts_natural : (k : Y → Runs) (xs : List X) → stmts_run (λ x. k (v x)) xs ≡ stmts_run k (map v xs)
  stmts_natural k [] = refl
  stmts_natural k (x ∷ xs) = λ i. λ last w s back next. k (v x) w s back (λ u s1. stmts_natural k xs i u w s1 back next)

  items_natural : (k : Y → ItemRuns) (xs : List X) → items_run (λ x. k (v x)) xs ≡ items_run k (map v xs)
  items_natural k [] = refl
  items_natural k (x ∷ xs) = λ i. λ last s back next. k (v x) s back (λ u s1. items_natural k xs i u s1 back next)

module _ (g : Setting) (Ends : Outcome → State → Type 0) (called : Caller) where
  module _ {X I Q T X' I' Q' T' : Type 0} (vx : X → X') (vi : I → I') (vq : Q → Q') (vt : T → T') (kx : X' → Runs) (ki : I' → ItemRuns) (kq : Q' → PieceRuns) (kt : T' → Runs) where
    expr_natural : (x : Expr-F X I Q T) → expr_runs g Ends called (λ y. kx (vx y)) (λ y. ki (vi y)) (λ y. kq (vq y)) (λ y. kt (vt y)) x ≡ expr_runs g Ends called kx ki kq kt (map-Expr X I Q T X' I' Q' T' vx vi vq vt x)
    expr_natural (F.Int n) = refl
    expr_natural (F.Bool b) = refl
    expr_natural F.Nothing = refl
    expr_natural (F.Local x) = refl
    expr_natural (F.Call f xs) = λ i. λ w s back next. each_natural vx kx xs i [] w s back (λ vs s1. called f vs w s1 next)
    expr_natural (F.Print xs line) = λ i. λ w s back next. texts_natural vq kq xs i [] w s back (λ t s1. next V.Nothing (prints s1 (t ++ newline line)))
    expr_natural (F.Latest f xs) = λ i. λ w s back next. each_natural vx kx xs i [] w s back (λ vs s1. looks g Ends s1.left s1 (λ newest s2. called f vs newest s2 next))
    expr_natural (F.Make t xs) = λ i. λ w s back next. each_natural vx kx xs i [] w s back (λ vs s1. operation_runs g Ends (make_written (all_types g.program) s1.bindings t vs) s1 next)
    expr_natural (F.Infer name xs) = λ i. λ w s back next. each_natural vx kx xs i [] w s back (λ vs s1. operation_runs g Ends (make_inferred (all_types g.program) name vs) s1 next)
    expr_natural (F.Parts xs) = λ i. λ w s back next. each_natural vx kx xs i [] w s back (λ vs s1. operation_runs g Ends (make_tuple (all_types g.program) vs) s1 next)
    expr_natural (F.Field a name) = refl
    expr_natural (F.Part a n) = refl
    expr_natural (F.Egal a b c) = refl
    expr_natural (F.Isa a t) = refl
    expr_natural (F.Sub t u) = refl
    expr_natural (F.If a b c) = refl
    expr_natural (F.And a b) = refl
    expr_natural (F.Or a b) = refl
    expr_natural (F.Block xs) = λ i. λ w s back next. stmts_natural vt kt xs i V.Nothing w s back (λ v s1. next v (with_env s1 s.env))
    expr_natural (F.Eval xs) = λ i. λ w s back next. items_natural vi (λ y s1. ki y (with_scope s1 [] [])) xs i V.Nothing s back (λ v s1. next v (with_scope s1 s.env s.bindings))
    expr_natural (F.Spawn n) = refl
    expr_natural (F.Delete n) = refl
    expr_natural (F.Fetch a) = refl

    item_natural : (x : Item-F X I Q T) → item_runs g Ends called (λ y. kx (vx y)) (λ y. ki (vi y)) (λ y. kq (vq y)) (λ y. kt (vt y)) x ≡ item_runs g Ends called kx ki kq kt (map-Item X I Q T X' I' Q' T' vx vi vq vt x)
    item_natural (F.Define site) = refl
    item_natural (F.Item::Bind x a) = refl
    item_natural (F.Item::Do a) = refl

    piece_natural : (x : Piece-F X I Q T) → piece_runs g Ends called (λ y. kx (vx y)) (λ y. ki (vi y)) (λ y. kq (vq y)) (λ y. kt (vt y)) x ≡ piece_runs g Ends called kx ki kq kt (map-Piece X I Q T X' I' Q' T' vx vi vq vt x)
    piece_natural (F.Text bytes) = refl
    piece_natural (F.Show a) = refl

    stmt_natural : (x : Stmt-F X I Q T) → stmt_runs g Ends called (λ y. kx (vx y)) (λ y. ki (vi y)) (λ y. kq (vq y)) (λ y. kt (vt y)) x ≡ stmt_runs g Ends called kx ki kq kt (map-Stmt X I Q T X' I' Q' T' vx vi vq vt x)
    stmt_natural (F.Stmt::Bind x a) = refl
    stmt_natural (F.Stmt::Do a) = refl
    stmt_natural (F.Return a) = refl

  pub runs_is : (t : Expr) → runs g Ends called t ≡ expr_runs g Ends called (runs g Ends called) (runs_item g Ends called) (runs_piece g Ends called) (runs_stmt g Ends called) (out-Expr t)
  runs_is t = ap (runs g Ends called) (sym (roll-out-Expr t)) ∙ rec-roll-Expr Runs ItemRuns PieceRuns Runs _ _ _ _ (λ X I Q T vx vi vq vt kx ki kq kt x. expr_natural vx vi vq vt kx ki kq kt x) (out-Expr t)

  pub item_is : (t : Item) → runs_item g Ends called t ≡ item_runs g Ends called (runs g Ends called) (runs_item g Ends called) (runs_piece g Ends called) (runs_stmt g Ends called) (out-Item t)
  item_is t = ap (runs_item g Ends called) (sym (roll-out-Item t)) ∙ rec-roll-Item Runs ItemRuns PieceRuns Runs _ _ _ _ (λ X I Q T vx vi vq vt kx ki kq kt x. item_natural vx vi vq vt kx ki kq kt x) (out-Item t)

  pub piece_is : (t : Piece) → runs_piece g Ends called t ≡ piece_runs g Ends called (runs g Ends called) (runs_item g Ends called) (runs_piece g Ends called) (runs_stmt g Ends called) (out-Piece t)
  piece_is t = ap (runs_piece g Ends called) (sym (roll-out-Piece t)) ∙ rec-roll-Piece Runs ItemRuns PieceRuns Runs _ _ _ _ (λ X I Q T vx vi vq vt kx ki kq kt x. piece_natural vx vi vq vt kx ki kq kt x) (out-Piece t)

  pub stmt_is : (t : Stmt) → runs_stmt g Ends called t ≡ stmt_runs g Ends called (runs g Ends called) (runs_item g Ends called) (runs_piece g Ends called) (runs_stmt g Ends called) (out-Stmt t)
  stmt_is t = ap (runs_stmt g Ends called) (sym (roll-out-Stmt t)) ∙ rec-roll-Stmt Runs ItemRuns PieceRuns Runs _ _ _ _ (λ X I Q T vx vi vq vt kx ki kq kt x. stmt_natural vx vi vq vt kx ki kq kt x) (out-Stmt t)
