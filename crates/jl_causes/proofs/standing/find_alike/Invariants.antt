use Rattle.std.proofs.Common.{◌<◌}
use Rattle.jl_methods.specs.Links.{AreNumbers}
use Rattle.jl_causes.specs.Stands.{IsAlike}
use Rattle.jl_causes.proofs.standing.find_alike.Given as goal

abbrev pub invariant-loop-site : goal.invariant-loop-site
invariant-loop-site l = AreNumbers (λ n. (n < l.site) × IsAlike l.ready n l.place) l.those.items
