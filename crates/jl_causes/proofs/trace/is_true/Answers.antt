use Rattle.std.proofs.Common.{arith}
use Rattle.jl_causes.proofs.TruthLemmas.{def_goal, del_goal, spawn_goal, fetch_goal, def_past, del_past, spawn_past, absent_goal}
use Rattle.jl_causes.proofs.trace.is_true.Goals as goal

pub returns-then-at-count : goal.returns-then-at-count
returns-then-at-count c = λ es h told.
    def_goal c.args.ready.now c.args.entries.now es told c.is_def_at.result c.args.task c.in-Def.site c.in-Def.at c.len-count.result c.args.step.now c.is_def_at.ensures (omega (arith, c.if-at-count.true)) (c.len-count.ensures es h.places) c.in-Def.is

pub returns-else-at-count : goal.returns-else-at-count
returns-else-at-count c = λ es h told. def_past c.args.ready.now es c.args.task c.in-Def.site c.in-Def.at c.len-count.result c.args.step.now (λ l. omega (arith, l, c.if-at-count.false)) (c.len-count.ensures es h.places) c.in-Def.is

pub returns-then-at-count-2 : goal.returns-then-at-count-2
returns-then-at-count-2 c = λ es h told.
    spawn_goal c.args.ready.now c.args.entries.now es told c.is_spawn_at.result c.args.task c.in-Spawn.child c.in-Spawn.at c.len-count.result c.args.step.now c.is_spawn_at.ensures (omega (arith, c.if-at-count-2.true)) (c.len-count.ensures es h.places) c.in-Spawn.is

pub returns-else-at-count-2 : goal.returns-else-at-count-2
returns-else-at-count-2 c = λ es h told. spawn_past c.args.ready.now es c.args.task c.in-Spawn.child c.in-Spawn.at c.len-count.result c.args.step.now (λ l. omega (arith, l, c.if-at-count-2.false)) (c.len-count.ensures es h.places) c.in-Spawn.is

pub returns-then-at-count-3 : goal.returns-then-at-count-3
returns-then-at-count-3 c = λ es h told.
    fetch_goal c.args.ready.now c.args.entries.now es told c.has_ended.result c.args.task c.in-Fetch.task c.in-Fetch.at c.len-count.result c.args.step.now (c.has_ended.ensures es h.tasks) (omega (arith, c.if-at-count-3.true)) (c.len-count.ensures es h.places) c.in-Fetch.is

pub returns-then-at-count-4 : goal.returns-then-at-count-4
returns-then-at-count-4 c = λ es h told.
    del_goal c.args.ready.now c.args.entries.now es told c.is_del_at.result c.args.task c.in-Del.place c.in-Del.at c.len-count.result c.args.step.now c.is_del_at.ensures (omega (arith, c.if-at-count-4.true)) (c.len-count.ensures es h.places) c.in-Del.is

pub returns-else-at-count-4 : goal.returns-else-at-count-4
returns-else-at-count-4 c = λ es h told. del_past c.args.ready.now es c.args.task c.in-Del.place c.in-Del.at c.len-count.result c.args.step.now (λ l. omega (arith, l, c.if-at-count-4.false)) (c.len-count.ensures es h.places) c.in-Del.is

pub returns-in_ok-is_absent-in-Absent : goal.returns-in_ok-is_absent-in-Absent
returns-in_ok-is_absent-in-Absent c = λ es h told. absent_goal c.args.ready.now es c.args.task c.in-Absent.place c.in-Absent.at c.args.step.now c.in_ok-is_absent-in-Absent.is_absent (c.in_ok-is_absent-in-Absent.ensures c.args.entries.now es h) c.in-Absent.is
