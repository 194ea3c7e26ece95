use Rattle.std.proofs.Common.{◌≡◌, length}
use Rattle.jl_match.proofs.hits.no_hits.Given as goal

abbrev pub invariant-loop : goal.invariant-loop
invariant-loop l = length l.hits.items ≡ l.counter
