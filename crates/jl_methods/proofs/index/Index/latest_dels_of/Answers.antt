use Rattle.std.proofs.Common.{sym, subst}
use Rattle.jl_methods.specs.Filters.{dels_of}
use Rattle.jl_methods.specs.Latest.{AreLatestOfPlaces}
use Rattle.jl_methods.proofs.index.Index.latest_dels_of.Goals as goal

pub returns : goal.returns
returns c = λ P es h. subst (AreLatestOfPlaces (dels_of P es c.args.function)) (sym c.get.ensures) (h.each_latest_dels c.args.function)
