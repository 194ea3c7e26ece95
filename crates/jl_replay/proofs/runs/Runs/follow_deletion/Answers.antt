use Rattle.std.proofs.Common.{◌∙◌, ap, sym, subst, refl, set}
use Rattle.jl_replay.specs.declared.runs.Stage.TheVariants as T
use Rattle.jl_replay.specs.Moves.{MayGoOn, FollowsDeletion}
use Rattle.jl_replay.proofs.Followed.{deletion_here, deletion_room, deletion_going, deletion_inside, deletion_followed, inside_after}
use Rattle.jl_replay.proofs.runs.Runs.follow_deletion.Goals as goal

pub trace_of-trace-requires-clause-there : goal.trace_of-trace-requires-clause-there
trace_of-trace-requires-clause-there g c =
    let q = c.requires in
    (deletion_here c.args.ready.now c.args.entries.now q.judged c.args.self.now q.followed c.args.n q.here c.args.task c.args.place q.entry).small

pub take_task-requires-clause-running : goal.take_task-requires-clause-running
take_task-requires-clause-running g c =
    let q = c.requires in
    let h = deletion_here c.args.ready.now c.args.entries.now q.judged c.args.self.now q.followed c.args.n q.here c.args.task c.args.place q.entry in
    h.running

pub follow_deletion-requires-clause-going : goal.follow_deletion-requires-clause-going
follow_deletion-requires-clause-going g c =
    let q = c.requires in
    subst (λ ss. MayGoOn c.args.ready.now c.args.self.now.led.past.1 c.args.task ss c.in_ok-running.running) (sym c.trace_of-trace.ensures)
    (deletion_going c.args.ready.now c.args.entries.now q.judged c.args.self.now q.followed c.args.n q.here c.args.task c.args.place q.entry c.in_ok-running.running c.in_ok-running.ensures.way)

pub follow_deletion-requires-clause-next : goal.follow_deletion-requires-clause-next
follow_deletion-requires-clause-next g c =
    let q = c.requires in
    rw (sym c.trace_of-trace.ensures) at
    (deletion_inside c.args.ready.now c.args.entries.now q.judged c.args.self.now q.followed c.args.n q.here c.args.task c.args.place q.entry c.in_ok-running.running c.in_ok-running.ensures.way)

pub follow_deletion-requires-clause-room : goal.follow_deletion-requires-clause-room
follow_deletion-requires-clause-room g c =
    let q = c.requires in
    deletion_room c.args.ready.now c.args.entries.now q.judged c.args.self.now q.followed c.args.n q.here c.args.task c.args.place q.entry

pub put_task-requires : goal.put_task-requires
put_task-requires g c =
    let q = c.requires in
    let h = deletion_here c.args.ready.now c.args.entries.now q.judged c.args.self.now q.followed c.args.n q.here c.args.task c.args.place q.entry in
    inside_after c.args.self.now.tasks.items c.take_task.new.tasks.items c.args.task c.in_ok-running.ensures.gone h.inside

pub returns-in-Ok : goal.returns-in-Ok
returns-in-Ok g c =
    let q = c.requires in
    let r = c.in_ok-running.running in
    let r' = c.follow_deletion.new.running in
    deletion_followed c.args.ready.now c.args.entries.now q.judged c.args.self.now q.followed c.args.n q.here c.args.task c.args.place q.entry r c.in_ok-running.ensures.way c.in-Ok.came r'
    (record { led = c.follow_deletion.new.led; tasks = c.put_task.new.tasks; fuel = c.args.self.now.fuel })
    (subst (λ ss. FollowsDeletion c.args.ready.now c.args.self.now.led.past.1 c.args.task ss r c.args.place c.in-Ok.came c.follow_deletion.new.led.past r') c.trace_of-trace.ensures c.in-Ok.ensures) refl
    (c.put_task.ensures ∙ ap (λ ts. set ts c.args.task (T.Running r')) c.in_ok-running.ensures.gone)
