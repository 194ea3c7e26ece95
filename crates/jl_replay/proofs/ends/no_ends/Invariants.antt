use Rattle.std.proofs.Common.{◌≡◌, ℕ, get_or, length}
use Rattle.jl_replay.proofs.ends.no_ends.Given as goal

-- as many zeros as were counted
abbrev pub invariant-loop : goal.invariant-loop
invariant-loop l = (length l.ends.items ≡ l.counter) × ((task : ℕ) → get_or l.ends.items task 0 ≡ 0)
