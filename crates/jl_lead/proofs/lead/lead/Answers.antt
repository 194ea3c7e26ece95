use Rattle.jl_lead.proofs.Leading.{begins_there, next_there, next_away}
use Rattle.jl_lead.proofs.lead.lead.Goals as goal

pub turns-init : goal.turns-init
turns-init g c = begins_there c.args.ready.now c.args.machine.now c.args.led.now c.requires.fits c.requires.going c.requires.here

pub step-requires : goal.step-requires
step-requires g c = c.turns.invariant.stays.fits

pub returns-then-led : goal.returns-then-led
returns-then-led g c =
    next_away c.args.ready.now c.args.machine.now c.args.led.now c.turns.machine c.turns.led c.turns.invariant c.step.new.self c.step.new.with
    c.in_ok-turn.ensures.fits c.in_ok-turn.ensures.fuel c.in_ok-turn.ensures.tells c.in_ok-turn.ensures.follows c.in_ok-turn.ensures.kept c.if-led.true

pub turns-smaller : goal.turns-smaller
turns-smaller g c = rw c.in-Again.is at c.in_ok-turn.ensures.turn

pub turns-preserved : goal.turns-preserved
turns-preserved g c =
    next_there c.args.ready.now c.args.machine.now c.args.led.now c.turns.machine c.turns.led c.turns.invariant c.step.new.self c.step.new.with
    c.in_ok-turn.ensures.fits c.in_ok-turn.ensures.fuel c.in_ok-turn.ensures.tells c.in_ok-turn.ensures.follows c.in_ok-turn.ensures.kept c.if-led.false

pub returns-in-Done : goal.returns-in-Done
returns-in-Done g c = (
  next_there c.args.ready.now c.args.machine.now c.args.led.now c.turns.machine c.turns.led c.turns.invariant c.step.new.self c.step.new.with
      c.in_ok-turn.ensures.fits c.in_ok-turn.ensures.fuel c.in_ok-turn.ensures.tells c.in_ok-turn.ensures.follows c.in_ok-turn.ensures.kept c.if-led.false,
  rw c.in-Done.is at c.in_ok-turn.ensures.turn,
)
