use Rattle.std.proofs.Common.{◌∙◌, ap, sym, arith, length}
use Rattle.jl_program.specs.declared.tree.Program.{Program}
use Rattle.jl_causes.proofs.JudgeLemmas.{not_so, spawn_not_running, spawn_no_place, spawn_out_of_order, spawn_full, spawn_unfinished, spawn_clean}
use Rattle.jl_causes.proofs.judge.Judge.judge_spawn.Goals as goal

pub returns-then-not-is_running : goal.returns-then-not-is_running
returns-then-not-is_running c = λ all es h.
    spawn_not_running c.args.ready.now all es c.args.task c.args.child c.args.place (not_so c.is_running.result (c.is_running.ensures es h.tasks) c.if-not-is_running.true)

pub returns-then-place-count : goal.returns-then-place-count
returns-then-place-count c = λ all es h.
    spawn_no_place c.args.ready.now all es c.args.task c.args.child c.args.place ((c.is_running.ensures es h.tasks).0 c.if-not-is_running.false) (omega (arith, c.if-place-count.true, c.len-count.ensures, ap (λ (P : Program). length P.spawns) c.program.ensures))

pub returns-then-child-tasks : goal.returns-then-child-tasks
returns-then-child-tasks c = λ all es h.
    let now = c.newest-tasks.ensures es h.places in
    spawn_out_of_order c.args.ready.now all es c.args.task c.args.child c.args.place ((c.is_running.ensures es h.tasks).0 c.if-not-is_running.false) (omega (arith, c.if-place-count.false, c.len-count.ensures, ap (λ (P : Program). length P.spawns) c.program.ensures)) (λ e. c.if-child-tasks.true (e ∙ sym now.tasks))

pub returns-then-tasks-ge-MOST_TASKS : goal.returns-then-tasks-ge-MOST_TASKS
returns-then-tasks-ge-MOST_TASKS c = λ all es h.
    let now = c.newest-tasks.ensures es h.places in
    spawn_full c.args.ready.now all es c.args.task c.args.child c.args.place ((c.is_running.ensures es h.tasks).0 c.if-not-is_running.false) (omega (arith, c.if-place-count.false, c.len-count.ensures, ap (λ (P : Program). length P.spawns) c.program.ensures)) (c.if-child-tasks.false ∙ now.tasks)
    (omega (arith, now.tasks, c.if-tasks-ge-MOST_TASKS.true))

pub is_finished-requires : goal.is_finished-requires
is_finished-requires c =
    let (all, es, h) = c.requires in
    omega (arith, h.many, c.if-child-tasks.false, c.if-tasks-ge-MOST_TASKS.false)

pub returns-then-not-is_finished : goal.returns-then-not-is_finished
returns-then-not-is_finished c = λ all es h.
    let now = c.newest-tasks.ensures es h.places in
    spawn_unfinished c.args.ready.now all es c.args.task c.args.child c.args.place ((c.is_running.ensures es h.tasks).0 c.if-not-is_running.false) (omega (arith, c.if-place-count.false, c.len-count.ensures, ap (λ (P : Program). length P.spawns) c.program.ensures)) (c.if-child-tasks.false ∙ now.tasks)
    (omega (arith, now.tasks, c.if-tasks-ge-MOST_TASKS.false)) (sym (c.is_finished.ensures c.args.ready.now all es h) ∙ c.if-not-is_finished.true)

pub returns : goal.returns
returns c = λ all es h.
    let now = c.newest-tasks.ensures es h.places in
    spawn_clean c.args.ready.now all es c.args.task c.args.child c.args.place ((c.is_running.ensures es h.tasks).0 c.if-not-is_running.false) (omega (arith, c.if-place-count.false, c.len-count.ensures, ap (λ (P : Program). length P.spawns) c.program.ensures)) (c.if-child-tasks.false ∙ now.tasks)
    (omega (arith, now.tasks, c.if-tasks-ge-MOST_TASKS.false)) (sym (c.is_finished.ensures c.args.ready.now all es h) ∙ c.if-not-is_finished.false)
