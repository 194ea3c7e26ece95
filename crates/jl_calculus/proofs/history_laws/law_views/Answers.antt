use Rattle.jl_calculus.proofs.ViewLemmas.{views_are}
use Rattle.jl_calculus.proofs.history_laws.law_views.Goals as goal

pub returns : goal.returns
returns c = views_are
