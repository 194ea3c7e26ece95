use Rattle.std.proofs.Common.{◌≡◌, ◌++◌, map, drop}
use Rattle.jl_sites.specs.Places.{joined, expr_places, stmt_places, eval_places, branch_places, piece_places}
use Rattle.jl_sites.proofs.gather.+forms.Given as goal

abbrev pub invariant-put_exprs-loop-expr : goal.invariant-put_exprs-loop-expr
invariant-put_exprs-loop-expr l = l.out ++ joined (map expr_places (drop l.expr-index l.exprs)) ≡ l.initial.out ++ joined (map expr_places l.exprs)

abbrev pub invariant-put_stmts-loop-stmt : goal.invariant-put_stmts-loop-stmt
invariant-put_stmts-loop-stmt l = l.out ++ joined (map stmt_places (drop l.stmt-index l.stmts)) ≡ l.initial.out ++ joined (map stmt_places l.stmts)

abbrev pub invariant-put_evals-loop-eval : goal.invariant-put_evals-loop-eval
invariant-put_evals-loop-eval l = l.out ++ joined (map eval_places (drop l.eval-index l.evals)) ≡ l.initial.out ++ joined (map eval_places l.evals)

abbrev pub invariant-put_branches-loop-branch : goal.invariant-put_branches-loop-branch
invariant-put_branches-loop-branch l = l.out ++ joined (map branch_places (drop l.branch-index l.branches)) ≡ l.initial.out ++ joined (map branch_places l.branches)

abbrev pub invariant-put_pieces-loop-piece : goal.invariant-put_pieces-loop-piece
invariant-put_pieces-loop-piece l = l.out ++ joined (map piece_places (drop l.piece-index l.pieces)) ≡ l.initial.out ++ joined (map piece_places l.pieces)
