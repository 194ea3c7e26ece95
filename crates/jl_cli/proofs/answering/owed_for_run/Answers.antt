use Rattle.jl_work.proofs.RunningLemmas.{refused_so}
use Rattle.jl_cli.proofs.answering.owed_for_run.Goals as goal

pub returns-in-Err : goal.returns-in-Err
returns-in-Err g c = refused_so c.refusal.result c.args.work.now c.args.bytes.now c.in-Err.line (rw c.in-Err.is at c.in_ok-ready.ensures) c.refusal.ensures

pub returns-in_ok-due-in-Ok : goal.returns-in_ok-due-in-Ok
returns-in_ok-due-in-Ok g c = c.in_ok-due-in-Ok.ensures c.args.bytes.now (rw c.in-Ok.is at c.in_ok-ready.ensures)
