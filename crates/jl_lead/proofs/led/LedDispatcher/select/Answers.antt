use Rattle.std.proofs.Common.{sym, subst, List, IfOk}
use Rattle.jl_program.specs.declared.tree.Program.{Program}
use Rattle.jl_calculus.specs.declared.history.Event.{Event}
use Rattle.jl_task.specs.Knows.{Asked, IsRight}
use Rattle.jl_lead.specs.Leads.{led_knows}
use Rattle.jl_lead.proofs.Answering.{asked}
use Rattle.jl_lead.proofs.Chosen.{right_ok}
use Rattle.jl_lead.proofs.led.LedDispatcher.select.Goals as goal

pub returns-clause-asked : goal.returns-clause-asked
returns-clause-asked c =
    let s = c.args.self.now in
    subst (λ (p : Program × List Event). Asked (led_knows s.past.0 s.past.1 s.task s.items.items s.told s.seen s.looks s.alone) (led_knows p.0 p.1 s.task s.items.items s.told s.seen s.looks s.alone))
    (sym c.choose.ensures.same) (asked s.past.0 s.past.1 s.task s.items.items s.told s.seen s.looks s.alone)

pub returns-clause-right : goal.returns-clause-right
returns-clause-right c =
    let s = c.args.self.now in
    let key = c.args.key in
    let right = right_ok s.past.0 s.past.1 s.task s.items.items s.told s.seen s.looks s.alone key.function c.args.world key.types c.requires.world.1 c.choose.result c.choose.ensures.choice in
    subst (λ (p : Program × List Event). IfOk c.choose.result (λ choice. IsRight (led_knows p.0 p.1 s.task s.items.items s.told s.seen s.looks s.alone) key.function key.types c.args.world choice)) (sym c.choose.ensures.same) right
