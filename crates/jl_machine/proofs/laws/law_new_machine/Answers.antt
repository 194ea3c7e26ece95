use Rattle.jl_machine.proofs.Whole.{root_law, task_law}
use Rattle.jl_machine.proofs.laws.law_new_machine.Goals as goal

pub returns-clause-root : goal.returns-clause-root
returns-clause-root g c = root_law _

pub returns-clause-task : goal.returns-clause-task
returns-clause-task g c = task_law _
