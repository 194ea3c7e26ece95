use Rattle.std.proofs.Common.{◌≡◌, ◌++◌, drop, map}
use Rattle.jl_resolve_forms.specs.Defined.{join_names, in_expr, in_stmt, in_eval, in_piece, in_branch}
use Rattle.jl_resolve_forms.proofs.defined.+names.Given as goal

abbrev pub invariant-put_exprs-loop-text : goal.invariant-put_exprs-loop-text
invariant-put_exprs-loop-text l = l.out ++ join_names (map in_expr (drop l.text-index l.texts)) ≡ l.initial.out ++ join_names (map in_expr l.texts)

abbrev pub invariant-put_stmts-loop-text : goal.invariant-put_stmts-loop-text
invariant-put_stmts-loop-text l = l.out ++ join_names (map in_stmt (drop l.text-index l.texts)) ≡ l.initial.out ++ join_names (map in_stmt l.texts)

abbrev pub invariant-put_evals-loop-text : goal.invariant-put_evals-loop-text
invariant-put_evals-loop-text l = l.out ++ join_names (map in_eval (drop l.text-index l.texts)) ≡ l.initial.out ++ join_names (map in_eval l.texts)

abbrev pub invariant-put_pieces-loop-text : goal.invariant-put_pieces-loop-text
invariant-put_pieces-loop-text l = l.out ++ join_names (map in_piece (drop l.text-index l.texts)) ≡ l.initial.out ++ join_names (map in_piece l.texts)

abbrev pub invariant-put_branches-loop-text : goal.invariant-put_branches-loop-text
invariant-put_branches-loop-text l = l.out ++ join_names (map in_branch (drop l.text-index l.texts)) ≡ l.initial.out ++ join_names (map in_branch l.texts)
