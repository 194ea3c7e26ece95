use Rattle.std.proofs.Common.{◌≡◌}
use Rattle.jl_methods.proofs.PreludeLemmas.{first_changes}
use Rattle.jl_methods.proofs.index.prelude_changes.Given as goal

abbrev pub invariant-loop-site : goal.invariant-loop-site
invariant-loop-site l = l.changes.items ≡ first_changes l.site
