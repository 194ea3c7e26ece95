use Rattle.jl_work.proofs.RunningLemmas.{ran_so}
use Rattle.jl_work.proofs.running.run_source.Goals as goal

pub tell_run-requires : goal.tell_run-requires
tell_run-requires g c = c.in_ok-history.ensures.legal.so_far.stand

pub returns : goal.returns
returns g c = ran_so c.with_history.result c.args.setup c.args.telling c.args.ready.now c.in_ok-history.history c.in_ok-text.text c.in_ok-history.ensures c.in_ok-text.ensures c.with_history.ensures
