use Rattle.jl_causes.proofs.JudgeLemmas.{not_so, done_not_running, done_false, done_missing, done_clean}
use Rattle.jl_causes.proofs.judge.Judge.judge_done.Goals as goal

pub has_true_trace-requires : goal.has_true_trace-requires
has_true_trace-requires c = c.requires

pub returns-then-not-is_running : goal.returns-then-not-is_running
returns-then-not-is_running c = λ es calls output ending h told.
    done_not_running c.args.ready.now c.args.entries.now es c.args.task calls c.args.trace.now output ending (not_so c.is_running.result (c.is_running.ensures es h.tasks) c.if-not-is_running.true)

pub returns-then-not-has_true_trace : goal.returns-then-not-has_true_trace
returns-then-not-has_true_trace c = λ es calls output ending h told.
    done_false c.args.ready.now c.args.entries.now es c.args.task calls c.args.trace.now output ending ((c.is_running.ensures es h.tasks).0 c.if-not-is_running.false)
    (not_so c.in_ok-has_true_trace.has_true_trace (c.in_ok-has_true_trace.ensures es calls output h told) c.if-not-has_true_trace.true)

pub returns-then-not-has_own_events : goal.returns-then-not-has_own_events
returns-then-not-has_own_events c = λ es calls output ending h told.
    done_missing c.args.ready.now c.args.entries.now es c.args.task calls c.args.trace.now output ending ((c.is_running.ensures es h.tasks).0 c.if-not-is_running.false)
    ((c.in_ok-has_true_trace.ensures es calls output h told).0 c.if-not-has_true_trace.false) (not_so c.has_own_events.result (c.has_own_events.ensures es calls output h.tasks) c.if-not-has_own_events.true)

pub returns : goal.returns
returns c = λ es calls output ending h told.
    done_clean c.args.ready.now c.args.entries.now es c.args.task calls c.args.trace.now output ending ((c.is_running.ensures es h.tasks).0 c.if-not-is_running.false)
    ((c.in_ok-has_true_trace.ensures es calls output h told).0 c.if-not-has_true_trace.false) ((c.has_own_events.ensures es calls output h.tasks).0 c.if-not-has_own_events.false)
