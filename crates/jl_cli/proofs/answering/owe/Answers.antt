use Rattle.jl_work.proofs.RunningLemmas.{refused_so}
use Rattle.jl_cli.proofs.answering.owe.Goals as goal

pub returns-in-Err : goal.returns-in-Err
returns-in-Err g c = refused_so c.refusal.result c.args.work.now c.args.bytes.now c.in-Err.line (rw c.in-Err.is at c.in_ok-script.ensures) c.refusal.ensures
