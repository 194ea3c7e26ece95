-- Lists of well-formed trees with one more at their end.
use Rattle.std.proofs.Common.{Bool, List, [], ◌∷◌, ◌++◌}
use Rattle.jl_grammar.specs.declared.tree.Branch.{Branch}
use Rattle.jl_grammar.specs.declared.tree.Eval.{Eval}
use Rattle.jl_grammar.specs.declared.tree.Expr.{Expr}
use Rattle.jl_grammar.specs.declared.tree.Item.{Item}
use Rattle.jl_grammar.specs.declared.tree.Piece.{Piece}
use Rattle.jl_grammar.specs.declared.tree.Stmt.{Stmt}
use Rattle.jl_formed.specs.Formed as F
use Rattle.jl_formed.specs.Formed.{FormedExpr, FormedExprs, FormedBranch, FormedBranches, FormedPiece, FormedPieces, FormedStmt, FormedStmts, FormedEval, FormedEvals, FormedItem, FormedItems}

pub exprs_behind : (r : Bool) (xs : List Expr) (x : Expr) → FormedExprs r xs → FormedExpr r x → FormedExprs r (xs ++ x ∷ [])
exprs_behind _ _ x (F.no_exprs r) g = F.more_exprs r x [] g (F.no_exprs r)
exprs_behind _ _ x (F.more_exprs r y ys f fs) g = F.more_exprs r y (ys ++ x ∷ []) f (exprs_behind r ys x fs g)

pub branches_behind : (r : Bool) (xs : List Branch) (x : Branch) → FormedBranches r xs → FormedBranch r x → FormedBranches r (xs ++ x ∷ [])
branches_behind _ _ x (F.no_branches r) g = F.more_branches r x [] g (F.no_branches r)
branches_behind _ _ x (F.more_branches r y ys f fs) g = F.more_branches r y (ys ++ x ∷ []) f (branches_behind r ys x fs g)

pub pieces_behind : (r : Bool) (xs : List Piece) (x : Piece) → FormedPieces r xs → FormedPiece r x → FormedPieces r (xs ++ x ∷ [])
pieces_behind _ _ x (F.no_pieces r) g = F.more_pieces r x [] g (F.no_pieces r)
pieces_behind _ _ x (F.more_pieces r y ys f fs) g = F.more_pieces r y (ys ++ x ∷ []) f (pieces_behind r ys x fs g)

pub stmts_behind : (r : Bool) (xs : List Stmt) (x : Stmt) → FormedStmts r xs → FormedStmt r x → FormedStmts r (xs ++ x ∷ [])
stmts_behind _ _ x (F.no_stmts r) g = F.more_stmts r x [] g (F.no_stmts r)
stmts_behind _ _ x (F.more_stmts r y ys f fs) g = F.more_stmts r y (ys ++ x ∷ []) f (stmts_behind r ys x fs g)

pub evals_behind : (xs : List Eval) (x : Eval) → FormedEvals xs → FormedEval x → FormedEvals (xs ++ x ∷ [])
evals_behind _ x F.no_evals g = F.more_evals x [] g F.no_evals
evals_behind _ x (F.more_evals y ys f fs) g = F.more_evals y (ys ++ x ∷ []) f (evals_behind ys x fs g)

pub items_behind : (xs : List Item) (x : Item) → FormedItems xs → FormedItem x → FormedItems (xs ++ x ∷ [])
items_behind _ x F.no_items g = F.more_items x [] g F.no_items
items_behind _ x (F.more_items y ys f fs) g = F.more_items y (ys ++ x ∷ []) f (items_behind ys x fs g)
