use Rattle.std.proofs.Common.{◌≡◌, length}
use Rattle.jl_match.proofs.hits.no_arguments.Given as goal

abbrev pub invariant-loop : goal.invariant-loop
invariant-loop l = length l.above.items ≡ l.counter
