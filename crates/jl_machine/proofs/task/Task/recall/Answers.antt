use Rattle.jl_machine.proofs.NumberLemmas.{replied_moves}
use Rattle.jl_machine.proofs.task.Task.recall.Goals as goal

pub returns-in_ok-work-in-Some : goal.returns-in_ok-work-in-Some
returns-in_ok-work-in-Some g c =
    replied_moves _ c.args.self.now c.args.function c.args.world _ c.clear.new.self c.in_ok-work-in-Some.work c.take_reply.new.now c.requires.fits c.in-Some.ensures c.clear.ensures c.in_ok-work-in-Some.ensures
