use Rattle.jl_ambig.proofs.StandLemmas.{same_from_left}
use Rattle.jl_ambig.proofs.beyond.is_same_at.Goals as goal

pub returns : goal.returns
returns c = same_from_left c.args.ready.now c.args.site c.args.place c.in_ok-yes.yes c.in_ok-yes.ensures
