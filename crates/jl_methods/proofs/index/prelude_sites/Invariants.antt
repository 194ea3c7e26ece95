use Rattle.std.proofs.Common.{[], length}
use Rattle.jl_calculus.specs.declared.history.Change.TheVariants as Ch
use Rattle.jl_methods.specs.Links.{linked_in, AreLinked}
use Rattle.jl_methods.proofs.PreludeLemmas.{first_changes}
use Rattle.jl_methods.proofs.index.prelude_sites.Given as goal

abbrev pub invariant-loop-site : goal.invariant-loop-site
invariant-loop-site l = AreLinked l.ready Ch.Def (length l.ready.sites) (first_changes l.site) [] (linked_in l.sites)
