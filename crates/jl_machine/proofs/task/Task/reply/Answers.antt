use Rattle.jl_machine.proofs.NumberLemmas.{two_taken}
use Rattle.jl_machine.proofs.task.Task.reply.Goals as goal

pub operate_numbers-requires-clause-taken : goal.operate_numbers-requires-clause-taken
operate_numbers-requires-clause-taken g c = two_taken _ c.args.function c.args.world c.in-Some.site _ _ c.requires c.in-Some.ensures
