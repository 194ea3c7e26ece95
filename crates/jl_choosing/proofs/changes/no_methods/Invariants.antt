use Rattle.std.proofs.Common.{◌≡◌, ℕ, [], get_or, length}
use Rattle.jl_choosing.proofs.changes.no_methods.Given as goal

abbrev pub invariant-loop : goal.invariant-loop
invariant-loop l = record {
  count : length l.rows.items ≡ l.counter;
  empty : (f : ℕ) → get_or l.rows.items f [] ≡ [];
}
