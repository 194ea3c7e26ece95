use Rattle.std.proofs.Common.{◌≡◌, length}
use Rattle.jl_causes.specs.Stands.{AllNone}
use Rattle.jl_causes.proofs.standing.nothing_found.Given as goal

abbrev pub invariant-loop : goal.invariant-loop
invariant-loop l = (length l.alike.items ≡ l.counter) × AllNone l.alike.items
