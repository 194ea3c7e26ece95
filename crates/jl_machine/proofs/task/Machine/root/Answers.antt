use Rattle.jl_machine.proofs.Whole.{root_turns}
use Rattle.jl_machine.proofs.task.Machine.root.Goals as goal

pub returns-clause-turns : goal.returns-clause-turns
returns-clause-turns c = root_turns c.args.ready.now c.args.fuel c.in_ok-machine.machine c.in_ok-machine.ensures
