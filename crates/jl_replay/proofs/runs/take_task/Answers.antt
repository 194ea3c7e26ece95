use Rattle.std.proofs.Common.{arith}
use Rattle.jl_replay.proofs.Beginning.{begun_way, spawn_there}
use Rattle.jl_replay.proofs.Followed.{kept_here}
use Rattle.jl_replay.proofs.runs.take_task.Goals as goal

pub take_stage-requires : goal.take_stage-requires
take_stage-requires c = omega (arith, c.requires.running.started, c.requires.on_way.many)

pub begin_spawned-requires-clause-some : goal.begin_spawned-requires-clause-some
begin_spawned-requires-clause-some c =
    let q = c.requires in
    let a = c.args in
    (kept_here a.ready.now a.entries.now a.led.now.past.1 a.tasks.now.items q.on_way a.task q.running c.take_stage.result _ c.take_stage.ensures.was c.in-Spawned.is).seen_some

pub begin_spawned-requires-clause-there : goal.begin_spawned-requires-clause-there
begin_spawned-requires-clause-there c =
    let q = c.requires in
    let a = c.args in
    let begins = kept_here a.ready.now a.entries.now a.led.now.past.1 a.tasks.now.items q.on_way a.task q.running c.take_stage.result _ c.take_stage.ensures.was c.in-Spawned.is in
    spawn_there _ begins.start begins.spawned

pub returns-in_ok-running-in-Spawned-clause-way : goal.returns-in_ok-running-in-Spawned-clause-way
returns-in_ok-running-in-Spawned-clause-way c =
    let q = c.requires in
    let a = c.args in
    let begins = kept_here a.ready.now a.entries.now a.led.now.past.1 a.tasks.now.items q.on_way a.task q.running c.take_stage.result _ c.take_stage.ensures.was c.in-Spawned.is in
    begun_way a.ready.now a.entries.now a.led.now.past.1 a.task c.in-Spawned.seen begins a.fuel q.fuel c.in_ok-running-in-Spawned.running c.in_ok-running-in-Spawned.ensures

pub returns-in-Running-clause-way : goal.returns-in-Running-clause-way
returns-in-Running-clause-way c =
    let q = c.requires in
    let a = c.args in
    kept_here a.ready.now a.entries.now a.led.now.past.1 a.tasks.now.items q.on_way a.task q.running c.take_stage.result _ c.take_stage.ensures.was c.in-Running.is

pub unreachable-requires : goal.unreachable-requires
unreachable-requires c =
    let q = c.requires in
    let a = c.args in
    kept_here a.ready.now a.entries.now a.led.now.past.1 a.tasks.now.items q.on_way a.task q.running c.take_stage.result _ c.take_stage.ensures.was c.in-Ended.is
