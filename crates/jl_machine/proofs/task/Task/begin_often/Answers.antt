use Rattle.std.proofs.Common.{Ok, refl}
use Rattle.jl_machine.proofs.Stepping.{lent_begun}
use Rattle.jl_machine.proofs.Moving.{alone}
use Rattle.jl_machine.proofs.task.Task.begin_often.Goals as goal

pub returns-in_ok-work-in_default : goal.returns-in_ok-work-in_default
returns-in_ok-work-in_default g c =
    alone _ _ _ _ _ (lent_begun (Ok c.in_ok-work-in_default.work) _ c.args.self.now c.args.expr.now c.begin.new.now c.in_ok-work-in_default.ensures c.requires.fits) refl
