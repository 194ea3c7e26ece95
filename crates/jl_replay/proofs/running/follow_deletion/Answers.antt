use Rattle.std.proofs.Common.{refl, arith}
use Rattle.jl_machine.specs.Steps.{fuel_of}
use Rattle.jl_replay.specs.Moves.{told_so_far}
use Rattle.jl_replay.proofs.Moving.{fits_led, whole_is, count_is, tells_deletion, made_deletion, deletion_said}
use Rattle.jl_replay.proofs.running.follow_deletion.Goals as goal

pub lead_to_deletion-requires-clause-fits : goal.lead_to_deletion-requires-clause-fits
lead_to_deletion-requires-clause-fits g c =
    let t = c.turn_to.ensures in
    fits_led c.args.ready.now c.args.task c.args.running.now c.args.led.now c.turn_to.new.self c.requires.program t.past t.task t.seen t.looks c.requires.going.fitting

pub returns-then-came : goal.returns-then-came
returns-then-came g c =
    let P = c.args.ready.now in
    let d0 = c.args.led.now in
    let r = c.args.running.now in
    let trace = c.args.trace.now in
    let d = c.turn_to.new.self in
    let t = c.turn_to.ensures in
    let items = c.in_ok-items.items.items in
    let whole = whole_is d0.past.1 trace r d items c.requires.going.followed t.left c.in_ok-items.ensures in
    let made = c.in_ok-came.ensures.made c.if-came.true in
    deletion_said P d0.past.1 c.args.task trace r c.args.place c.in_ok-came.came c.lead_to_deletion.new.led.past _
    (tells_deletion P c.args.task (fuel_of r.machine) (told_so_far d0.past.1 trace r.told) d0 d t.past t.task _ c.args.place c.in_ok-came.came whole c.in_ok-came.ensures.exact)
    (λ e.
    made_deletion P c.args.task trace r _ d0 d c.lead_to_deletion.new.led t.past t.task made.stays c.len-running.ensures refl
    (omega (arith, c.len-count.ensures, count_is d0.past.1 trace r.told items c.in_ok-items.ensures)) whole c.args.place made)

pub returns-else-came : goal.returns-else-came
returns-else-came g c =
    let P = c.args.ready.now in
    let d0 = c.args.led.now in
    let r = c.args.running.now in
    let trace = c.args.trace.now in
    let d = c.turn_to.new.self in
    let t = c.turn_to.ensures in
    let whole = whole_is d0.past.1 trace r d c.in_ok-items.items.items c.requires.going.followed t.left c.in_ok-items.ensures in
    deletion_said P d0.past.1 c.args.task trace r c.args.place c.in_ok-came.came c.lead_to_deletion.new.led.past _
    (tells_deletion P c.args.task (fuel_of r.machine) (told_so_far d0.past.1 trace r.told) d0 d t.past t.task _ c.args.place c.in_ok-came.came whole c.in_ok-came.ensures.exact)
    (λ e. absurd (cc (e, c.if-came.false)))
