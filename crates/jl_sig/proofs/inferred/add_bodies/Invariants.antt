use Rattle.std.proofs.Common.{◌≡◌, ◌++◌, drop}
use Rattle.jl_sig.specs.Inferred.{in_bodies}
use Rattle.jl_sig.proofs.inferred.add_bodies.Given as goal

abbrev pub invariant-loop-site : goal.invariant-loop-site
invariant-loop-site l = (l.found.items ++ in_bodies (drop l.site-index l.sites)) ≡ l.initial.found.items ++ in_bodies l.sites
