use Rattle.std.proofs.Common.{◌≡◌}
use Rattle.jl_methods.proofs.PreludeLemmas.{first_changes}
use Rattle.jl_choosing.proofs.changes.prelude_changes.Given as goal

abbrev pub invariant-loop-site : goal.invariant-loop-site
invariant-loop-site l = l.changes ≡ (l.ready, first_changes l.site)
