use Rattle.std.proofs.Common.{◌≡◌, ◌++◌, map, drop}
use Rattle.jl_print.specs.Printed.{expr_terminals, stmt_terminals, eval_terminals, piece_terminals, branch_terminals, join_more, lines}
use Rattle.jl_print.proofs.PrintedRest.{rest, branches_from}
use Rattle.jl_print.proofs.print_forms.+forms.Given as goal

abbrev pub invariant-put_exprs-loop-i : goal.invariant-put_exprs-loop-i
invariant-put_exprs-loop-i l = l.out ++ rest expr_terminals l.exprs l.i ≡ l.initial.out ++ rest expr_terminals l.exprs 0

abbrev pub invariant-put_pieces-loop-i : goal.invariant-put_pieces-loop-i
invariant-put_pieces-loop-i l = l.out ++ rest piece_terminals l.pieces l.i ≡ l.initial.out ++ rest piece_terminals l.pieces 0

abbrev pub invariant-put_branches-loop-i : goal.invariant-put_branches-loop-i
invariant-put_branches-loop-i l = l.out ++ branches_from l.i (map branch_terminals (drop l.i l.branches)) ≡ l.initial.out ++ branches_from 0 (map branch_terminals l.branches)

abbrev pub invariant-put_more_exprs-loop-expr : goal.invariant-put_more_exprs-loop-expr
invariant-put_more_exprs-loop-expr l = l.out ++ join_more (map expr_terminals (drop l.expr-index l.exprs)) ≡ l.initial.out ++ join_more (map expr_terminals l.exprs)

abbrev pub invariant-put_stmts-loop-stmt : goal.invariant-put_stmts-loop-stmt
invariant-put_stmts-loop-stmt l = l.out ++ lines (map stmt_terminals (drop l.stmt-index l.stmts)) ≡ l.initial.out ++ lines (map stmt_terminals l.stmts)

abbrev pub invariant-put_evals-loop-eval : goal.invariant-put_evals-loop-eval
invariant-put_evals-loop-eval l = l.out ++ lines (map eval_terminals (drop l.eval-index l.evals)) ≡ l.initial.out ++ lines (map eval_terminals l.evals)
