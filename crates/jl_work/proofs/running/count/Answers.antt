use Rattle.jl_work.proofs.RunningLemmas.{checked_so}
use Rattle.jl_work.proofs.running.count.Goals as goal

pub returns : goal.returns
returns c = checked_so c.args.program.now c.in_ok-text.text c.in_ok-text.ensures
