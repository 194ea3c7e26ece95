use Rattle.jl_written.proofs.SightLemmas.{widened_from}
use Rattle.jl_written.proofs.vars.widen.Goals as goal

pub returns-in-From : goal.returns-in-From
returns-in-From c = λ first vars l. widened_from first vars c.args.sight c.in-From.from c.args.start c.min.result l c.in-From.is c.min.ensures
