use Rattle.std.proofs.Common.{◌≡◌, drop, map}
use Rattle.jl_resolve_forms.specs.Expressions.{all_coded, all_said, all_shown, all_evaluated, all_tried, expr_reads, stmt_reads, piece_reads, eval_reads, branch_reads}
use Rattle.jl_resolve_walk.specs.Steps.{parts_behind, scoped_behind}
use Rattle.jl_resolve_walk.proofs.expressions.+reads.Given as goal

abbrev pub invariant-exprs-loop-text : goal.invariant-exprs-loop-text
invariant-exprs-loop-text g l =
    let f = expr_reads (g.J.Judge.tests l.judge) l.known in
    record {
      means : parts_behind l.out (all_coded (map f (drop l.text-index l.texts)) l.scope l.state) ≡ all_coded (map f l.texts) l.initial.scope l.initial.state;
      kept : l.scope ≡ l.initial.scope;
    }

abbrev pub invariant-block-loop-text : goal.invariant-block-loop-text
invariant-block-loop-text g l =
    let f = stmt_reads (g.J.Judge.tests l.judge) l.known in
    scoped_behind l.out (all_said (map f (drop l.text-index l.texts)) l.scope l.state) ≡ all_said (map f l.texts) l.initial.scope l.initial.state

abbrev pub invariant-pieces-loop-text : goal.invariant-pieces-loop-text
invariant-pieces-loop-text g l =
    let f = piece_reads (g.J.Judge.tests l.judge) l.known in
    record {
      means : parts_behind l.out (all_shown (map f (drop l.text-index l.texts)) l.scope l.state) ≡ all_shown (map f l.texts) l.initial.scope l.initial.state;
      kept : l.scope ≡ l.initial.scope;
    }

abbrev pub invariant-evals-loop-text : goal.invariant-evals-loop-text
invariant-evals-loop-text g l =
    let f = eval_reads (g.J.Judge.tests l.judge) l.known in
    parts_behind l.out (all_evaluated (map f (drop l.text-index l.texts)) l.types l.state) ≡ all_evaluated (map f l.texts) l.types l.initial.state

abbrev pub invariant-branches-loop-text : goal.invariant-branches-loop-text
invariant-branches-loop-text g l =
    let f = branch_reads (g.J.Judge.tests l.judge) l.known in
    record {
      means : parts_behind l.out.items (all_tried (map f (drop l.text-index l.texts)) l.scope l.state) ≡ all_tried (map f l.texts) l.initial.scope l.initial.state;
      kept : l.scope ≡ l.initial.scope;
    }
