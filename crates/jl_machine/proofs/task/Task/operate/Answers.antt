use Rattle.jl_machine.proofs.Acting.{may_act, lent_operated}
use Rattle.jl_machine.proofs.task.Task.operate.Goals as goal

pub operate-requires-clause-good : goal.operate-requires-clause-good
operate-requires-clause-good g c = may_act _ c.args.ready.now c.args.self.now c.args.expr.now c.requires.program c.requires.fits

pub returns-clause-steps : goal.returns-clause-steps
returns-clause-steps g c =
    lent_operated _ c.args.ready.now c.args.self.now c.args.expr.now c.requires.program c.requires.fits c.answer.result c.in_ok-outcome.outcome c.answer.new.now c.requires.form c.in_ok-outcome.ensures.answer c.in_ok-outcome.ensures.valid (rw c.clear.ensures at c.answer.ensures)
