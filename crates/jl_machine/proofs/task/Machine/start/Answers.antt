use Rattle.jl_machine.proofs.Whole.{task_turns}
use Rattle.jl_machine.proofs.task.Machine.start.Goals as goal

pub returns-clause-turns : goal.returns-clause-turns
returns-clause-turns c = task_turns c.args.ready.now c.args.start.now c.args.fuel c.in_ok-machine.machine c.in_ok-machine.ensures
