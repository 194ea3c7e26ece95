use Rattle.jl_cli.specs.Due.{judged}
use Rattle.jl_cli.proofs.Running.{unjudged_so}
use Rattle.jl_cli.proofs.judging.judged_for.Goals as goal

pub returns-in-Err : goal.returns-in-Err
returns-in-Err g c = unjudged_so c.refusal.result c.args.bytes.now c.args.history.now c.in-Err.line (rw c.in-Err.is at c.in_ok-ready.ensures) c.refusal.ensures

pub returns-in_ok-due-in-Ok : goal.returns-in_ok-due-in-Ok
returns-in_ok-due-in-Ok g c =
    (judged c.args.bytes.now c.args.history.now c.in-Ok.ready _ _ (rw c.in-Ok.is at c.in_ok-ready.ensures) c.in_ok-due-in-Ok.ensures.0, c.in_ok-due-in-Ok.ensures.1)
