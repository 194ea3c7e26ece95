use Rattle.jl_written.proofs.SightLemmas.{shifted_by_none}
use Rattle.jl_written.proofs.vars.Statics.all.Goals as goal

pub returns : goal.returns
returns c = shifted_by_none c.args.vars.now
