use Rattle.std.proofs.Common.{◌∙◌, ap, sym, subst, refl, set}
use Rattle.jl_replay.specs.declared.runs.Stage.TheVariants as T
use Rattle.jl_replay.specs.Moves.{MayGoOn, FollowsSpawn}
use Rattle.jl_replay.proofs.Followed.{spawn_here, spawn_room, spawn_going, spawn_inside, spawn_come, inside_after}
use Rattle.jl_replay.proofs.runs.Runs.come_to_spawn.Goals as goal

pub trace_of-trace-requires-clause-there : goal.trace_of-trace-requires-clause-there
trace_of-trace-requires-clause-there g c =
    let q = c.requires in
    (spawn_here c.args.ready.now c.args.entries.now q.judged c.args.self.now q.followed c.args.n q.here c.args.task c.args.child c.args.place q.entry).small

pub take_task-requires-clause-running : goal.take_task-requires-clause-running
take_task-requires-clause-running g c =
    let q = c.requires in
    let h = spawn_here c.args.ready.now c.args.entries.now q.judged c.args.self.now q.followed c.args.n q.here c.args.task c.args.child c.args.place q.entry in
    h.running

pub follow_spawn-requires-clause-going : goal.follow_spawn-requires-clause-going
follow_spawn-requires-clause-going g c =
    let q = c.requires in
    subst (λ ss. MayGoOn c.args.ready.now c.args.self.now.led.past.1 c.args.task ss c.in_ok-running.running) (sym c.trace_of-trace.ensures)
    (spawn_going c.args.ready.now c.args.entries.now q.judged c.args.self.now q.followed c.args.n q.here c.args.task c.args.child c.args.place q.entry c.in_ok-running.running c.in_ok-running.ensures.way)

pub follow_spawn-requires-clause-next : goal.follow_spawn-requires-clause-next
follow_spawn-requires-clause-next g c =
    let q = c.requires in
    rw (sym c.trace_of-trace.ensures) at
    (spawn_inside c.args.ready.now c.args.entries.now q.judged c.args.self.now q.followed c.args.n q.here c.args.task c.args.child c.args.place q.entry c.in_ok-running.running c.in_ok-running.ensures.way)

pub follow_spawn-requires-clause-room : goal.follow_spawn-requires-clause-room
follow_spawn-requires-clause-room g c =
    let q = c.requires in
    spawn_room c.args.ready.now c.args.entries.now q.judged c.args.self.now q.followed c.args.n q.here c.args.task c.args.child c.args.place q.entry

pub put_task-requires : goal.put_task-requires
put_task-requires g c =
    let q = c.requires in
    let h = spawn_here c.args.ready.now c.args.entries.now q.judged c.args.self.now q.followed c.args.n q.here c.args.task c.args.child c.args.place q.entry in
    inside_after c.args.self.now.tasks.items c.take_task.new.tasks.items c.args.task c.in_ok-running.ensures.gone h.inside

pub returns-in-Ok : goal.returns-in-Ok
returns-in-Ok g c =
    let q = c.requires in
    let r = c.in_ok-running.running in
    let r' = c.follow_spawn.new.running in
    spawn_come c.args.ready.now c.args.entries.now q.judged c.args.self.now q.followed c.args.n q.here c.args.task c.args.child c.args.place q.entry r c.in_ok-running.ensures.way c.in-Ok.came r'
    (record { led = c.follow_spawn.new.led; tasks = c.put_task.new.tasks; fuel = c.args.self.now.fuel })
    (subst (λ ss. FollowsSpawn c.args.ready.now c.args.self.now.led.past.1 c.args.task ss r c.args.place c.in-Ok.came c.follow_spawn.new.led.past r') c.trace_of-trace.ensures c.in-Ok.ensures) refl
    (c.put_task.ensures ∙ ap (λ ts. set ts c.args.task (T.Running r')) c.in_ok-running.ensures.gone)
