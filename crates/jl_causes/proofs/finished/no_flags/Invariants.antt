use Rattle.std.proofs.Common.{◌≡◌, ℕ, false, length, get_or}
use Rattle.jl_causes.proofs.finished.no_flags.Given as goal

abbrev pub invariant-loop : goal.invariant-loop
invariant-loop l = (length l.flags.items ≡ l.counter) × ((task : ℕ) → get_or l.flags.items task false ≡ false)
