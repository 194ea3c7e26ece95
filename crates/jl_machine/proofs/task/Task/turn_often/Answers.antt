use Rattle.jl_machine.proofs.task.Task.turn_often.Goals as goal

pub returns-in_ok-next-in-Eval-clause-moves : goal.returns-in_ok-next-in-Eval-clause-moves
returns-in_ok-next-in-Eval-clause-moves g c = rw c.in-Eval.is c.in_ok-next-in-Eval.ensures

pub returns-in_ok-next-in-Give-clause-moves : goal.returns-in_ok-next-in-Give-clause-moves
returns-in_ok-next-in-Give-clause-moves g c = rw c.in-Give.is c.in_ok-next-in-Give.ensures

pub returns-in_ok-next-in-Acting-clause-moves : goal.returns-in_ok-next-in-Acting-clause-moves
returns-in_ok-next-in-Acting-clause-moves g c = rw c.in-Acting.is c.in_ok-next-in-Acting.ensures.moves
