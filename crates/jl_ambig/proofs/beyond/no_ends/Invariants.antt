use Rattle.std.proofs.Common.{◌≡◌, ℕ, None, get_or, length}
use Rattle.jl_ambig.proofs.beyond.no_ends.Given as goal

abbrev pub invariant-loop : goal.invariant-loop
invariant-loop l = record {
  count : length l.ends.items ≡ l.counter;
  empty : (s : ℕ) → get_or l.ends.items s None ≡ None;
}
