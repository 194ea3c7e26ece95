use Rattle.jl_work.specs.declared.work.Work.TheVariants as W
use Rattle.jl_work.specs.Owed.{worked}
use Rattle.jl_work.proofs.RunningLemmas.{refused_so}
use Rattle.jl_cli.proofs.answering.owed_for_check.Goals as goal

pub returns-in-Err : goal.returns-in-Err
returns-in-Err c = refused_so c.refusal.result W.Check c.args.bytes.now c.in-Err.line (rw c.in-Err.is at c.in_ok-program.ensures) c.refusal.ensures

pub returns-in_ok-due-in-Ok : goal.returns-in_ok-due-in-Ok
returns-in_ok-due-in-Ok c = worked W.Check c.args.bytes.now c.in-Ok.program _ _ _ (rw c.in-Ok.is at c.in_ok-program.ensures) c.in_ok-due-in-Ok.ensures
