use Rattle.jl_machine.proofs.Acting.{call_fits}
use Rattle.jl_machine.proofs.Moving.{call_moves}
use Rattle.jl_machine.proofs.task.Task.act_alone.Goals as goal

pub recall-requires-clause-fits : goal.recall-requires-clause-fits
recall-requires-clause-fits g c = call_fits _ c.args.self.now c.args.expr.now c.in-Call.function c.in-Call.field-1 c.in-Call.is c.requires.fits

pub returns-in_ok-next-in-Call-clause-moves : goal.returns-in_ok-next-in-Call-clause-moves
returns-in_ok-next-in-Call-clause-moves g c =
    call_moves _ c.args.self.now c.args.expr.now c.in-Call.function c.in-Call.field-1 c.in-Call.is c.requires.fits c.in_ok-next-in-Call.next c.recall.new.self c.in_ok-next-in-Call.ensures
