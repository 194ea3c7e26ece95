use Rattle.jl_work.proofs.RunningLemmas.{answered_so}
use Rattle.jl_work.proofs.running.run_for_key.Goals as goal

pub tell_choices-requires-clause-stand : goal.tell_choices-requires-clause-stand
tell_choices-requires-clause-stand g c = c.in_ok-history.ensures.legal.so_far.stand

pub returns : goal.returns
returns g c =
    λ question means.
    answered_so c.with_history.result c.args.setup question c.args.ready.now c.in_ok-history.history c.in_ok-text.text c.in_ok-history.ensures (c.in_ok-text.ensures question means) c.with_history.ensures
