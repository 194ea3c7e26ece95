use Rattle.jl_machine.specs.Steps.{fuel_of}
use Rattle.jl_replay.specs.Moves.{told_so_far}
use Rattle.jl_replay.proofs.Moving.{fits_led, whole_is, run_said}
use Rattle.jl_replay.proofs.running.follow_end.Goals as goal

pub lead_to_end-requires-clause-fits : goal.lead_to_end-requires-clause-fits
lead_to_end-requires-clause-fits g c =
    let t = c.turn_to.ensures in
    fits_led c.args.ready.now c.args.task c.args.running c.args.led.now c.turn_to.new.self c.requires.program t.past t.task t.seen t.looks c.requires.going.fitting

pub returns-in_ok-found-in-Ok-clause-run : goal.returns-in_ok-found-in-Ok-clause-run
returns-in_ok-found-in-Ok-clause-run g c =
    let d0 = c.args.led.now in
    let r = c.args.running in
    let trace = c.args.trace.now in
    let d = c.turn_to.new.self in
    let t = c.turn_to.ensures in
    run_said c.args.ready.now c.args.task (fuel_of r.machine) (told_so_far d0.past.1 trace r.told) d0 d t.past t.task _
    (whole_is d0.past.1 trace r d c.in-Ok.items.items c.requires.going.followed t.left c.in-Ok.ensures) c.in_ok-found-in-Ok.found c.in_ok-found-in-Ok.ensures.run
