use Rattle.jl_machine.proofs.NumberLemmas.{given_on, given_rest}
use Rattle.jl_machine.proofs.task.Task.give_often.Goals as goal

pub returns-in_ok-work-in-Some : goal.returns-in_ok-work-in-Some
returns-in_ok-work-in-Some g c =
    given_on _ c.args.self.now c.go_parts.new.self c.take_args.new.self c.in-Some.expr.now c.in-Some.rest.now c.in_ok-work-in-Some.work c.in-Some.ensures c.requires.settled c.requires.fits c.in_ok-work-in-Some.ensures

pub returns-in_ok-work-in-None : goal.returns-in_ok-work-in-None
returns-in_ok-work-in-None g c =
    given_rest _ c.args.self.now c.take_args.new.self c.args.ready.now c.in_ok-work-in-None.work c.give.new.now c.in-None.ensures c.requires.program c.in_ok-work-in-None.ensures c.requires.fits
