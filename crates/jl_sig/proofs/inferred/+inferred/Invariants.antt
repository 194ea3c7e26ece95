use Rattle.std.proofs.Common.{◌≡◌, ◌++◌, drop}
use Rattle.std.specs.List.{flat_map}
use Rattle.jl_program.specs.Gathered.{of_expr, of_stmt, of_item, of_piece, own_struct}
use Rattle.jl_sig.proofs.inferred.+inferred.Given as goal

abbrev pub invariant-add_exprs-loop-expr : goal.invariant-add_exprs-loop-expr
invariant-add_exprs-loop-expr l = (l.found.items ++ flat_map (of_expr own_struct) (drop l.expr-index l.exprs)) ≡ l.initial.found.items ++ flat_map (of_expr own_struct) l.exprs

abbrev pub invariant-add_stmts-loop-stmt : goal.invariant-add_stmts-loop-stmt
invariant-add_stmts-loop-stmt l = (l.found.items ++ flat_map (of_stmt own_struct) (drop l.stmt-index l.stmts)) ≡ l.initial.found.items ++ flat_map (of_stmt own_struct) l.stmts

abbrev pub invariant-add_items-loop-item : goal.invariant-add_items-loop-item
invariant-add_items-loop-item l = (l.found.items ++ flat_map (of_item own_struct) (drop l.item-index l.items)) ≡ l.initial.found.items ++ flat_map (of_item own_struct) l.items

abbrev pub invariant-add_pieces-loop-piece : goal.invariant-add_pieces-loop-piece
invariant-add_pieces-loop-piece l = (l.found.items ++ flat_map (of_piece own_struct) (drop l.piece-index l.pieces)) ≡ l.initial.found.items ++ flat_map (of_piece own_struct) l.pieces
