use Rattle.jl_written.proofs.SightLemmas.{bounded_from}
use Rattle.jl_written.proofs.vars.bound_sight.Goals as goal

pub returns-in-From : goal.returns-in-From
returns-in-From c = λ first vars l. bounded_from first vars c.args.sight c.in-From.from c.args.start c.min.result l c.in-From.is c.min.ensures
