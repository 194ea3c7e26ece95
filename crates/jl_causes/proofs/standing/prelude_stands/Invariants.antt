use Rattle.jl_methods.proofs.PreludeLemmas.{first_changes}
use Rattle.jl_causes.specs.Stands.{AreStanding}
use Rattle.jl_causes.proofs.standing.prelude_stands.Given as goal

abbrev pub invariant-loop-site : goal.invariant-loop-site
invariant-loop-site l = AreStanding l.ready (first_changes l.site) l.standing
