use Rattle.std.proofs.Common.{refl}
use Rattle.jl_work.specs.declared.work.Work.TheVariants as W
use Rattle.jl_work.proofs.RunningLemmas.{worked_as}
use Rattle.jl_work.proofs.running.work_on.Goals as goal

pub returns-in_ok-due-in-Check : goal.returns-in_ok-due-in-Check
returns-in_ok-due-in-Check g c =
    λ bytes are.
    worked_as c.in_ok-due-in-Check.due c.args.work.now W.Check bytes c.args.ready.now c.program.result.now c.in-Check.is c.program.ensures c.in_ok-due-in-Check.ensures are

pub returns-in_ok-due-in-Run : goal.returns-in_ok-due-in-Run
returns-in_ok-due-in-Run g c =
    λ bytes are.
    worked_as c.in_ok-due-in-Run.due c.args.work.now (W.Run c.in-Run.setup c.in-Run.telling) bytes c.args.ready.now c.args.ready.now c.in-Run.is refl c.in_ok-due-in-Run.ensures are
