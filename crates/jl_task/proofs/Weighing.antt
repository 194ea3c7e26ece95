-- The weight of a form is that of its layer.
use Rattle.std.proofs.Common.{◌≡◌, ℕ, sym, ap, ◌∙◌}
use Rattle.jl_program.specs.declared.tree.Expr.{Expr, out-Expr, roll-out-Expr}
use Rattle.jl_program.specs.declared.tree.Stmt.{Stmt, out-Stmt, roll-out-Stmt}
use Rattle.jl_program.specs.declared.tree.Item.{Item, out-Item, roll-out-Item}
use Rattle.jl_program.specs.declared.tree.Piece.{Piece, out-Piece, roll-out-Piece}
use Rattle.jl_program.specs.declared.tree.Expr.TheOpen.{Expr-F, Stmt-F, Item-F, Piece-F}
use Rattle.jl_program.specs.declared.tree.Expr.TheFolds.{map-Expr, map-Stmt, map-Item, map-Piece, fold-roll-Expr, fold-roll-Stmt, fold-roll-Item, fold-roll-Piece}
use Rattle.jl_task.specs.Weight.{expr_weight_step, item_weight_step, piece_weight_step, stmt_weight_step, expr_weight, stmt_weight, item_weight, piece_weight}

abbrev pub expr_layer : Expr-F Expr Item Piece Stmt → ℕ
expr_layer x = expr_weight_step (map-Expr Expr Item Piece Stmt ℕ ℕ ℕ ℕ expr_weight item_weight piece_weight stmt_weight x)

abbrev pub stmt_layer : Stmt-F Expr Item Piece Stmt → ℕ
stmt_layer x = stmt_weight_step (map-Stmt Expr Item Piece Stmt ℕ ℕ ℕ ℕ expr_weight item_weight piece_weight stmt_weight x)

abbrev pub item_layer : Item-F Expr Item Piece Stmt → ℕ
item_layer x = item_weight_step (map-Item Expr Item Piece Stmt ℕ ℕ ℕ ℕ expr_weight item_weight piece_weight stmt_weight x)

abbrev pub piece_layer : Piece-F Expr Item Piece Stmt → ℕ
piece_layer x = piece_weight_step (map-Piece Expr Item Piece Stmt ℕ ℕ ℕ ℕ expr_weight item_weight piece_weight stmt_weight x)

pub expr_weighs : (e : Expr) → expr_weight e ≡ expr_layer (out-Expr e)
expr_weighs e = ap expr_weight (sym (roll-out-Expr e)) ∙ fold-roll-Expr ℕ ℕ ℕ ℕ expr_weight_step item_weight_step piece_weight_step stmt_weight_step (out-Expr e)

pub stmt_weighs : (e : Stmt) → stmt_weight e ≡ stmt_layer (out-Stmt e)
stmt_weighs e = ap stmt_weight (sym (roll-out-Stmt e)) ∙ fold-roll-Stmt ℕ ℕ ℕ ℕ expr_weight_step item_weight_step piece_weight_step stmt_weight_step (out-Stmt e)

pub item_weighs : (e : Item) → item_weight e ≡ item_layer (out-Item e)
item_weighs e = ap item_weight (sym (roll-out-Item e)) ∙ fold-roll-Item ℕ ℕ ℕ ℕ expr_weight_step item_weight_step piece_weight_step stmt_weight_step (out-Item e)

pub piece_weighs : (e : Piece) → piece_weight e ≡ piece_layer (out-Piece e)
piece_weighs e = ap piece_weight (sym (roll-out-Piece e)) ∙ fold-roll-Piece ℕ ℕ ℕ ℕ expr_weight_step item_weight_step piece_weight_step stmt_weight_step (out-Piece e)
