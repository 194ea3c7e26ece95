use Rattle.jl_cli.proofs.Running.{unjudged_so}
use Rattle.jl_cli.proofs.judging.judge.Goals as goal

pub returns-in-Err : goal.returns-in-Err
returns-in-Err g c = unjudged_so c.refusal.result c.args.bytes.now c.args.history.now c.in-Err.line (rw c.in-Err.is at c.in_ok-script.ensures) c.refusal.ensures
