use Rattle.std.proofs.Common.{sym, subst}
use Rattle.jl_calculus.specs.declared.history.Change.TheVariants as Ch
use Rattle.jl_methods.specs.Links.{AreApplying}
use Rattle.jl_methods.proofs.index.Index.places_of.Goals as goal

pub returns : goal.returns
returns c = λ P es k h e. subst (AreApplying P Ch.Del k) (sym c.applying.ensures) (h.places.each_applying c.args.key k e)
