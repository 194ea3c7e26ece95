use Rattle.std.proofs.Common.{◌≡◌, ℕ, ◌+◌, drop, length}
use Rattle.jl_search.specs.Occurring.{flags}
use Rattle.jl_search.proofs.occurs.occurring.Given as goal

abbrev pub invariant-loop : goal.invariant-loop
invariant-loop l = length l.flags.items ≡ l.counter

abbrev pub invariant-loop-step : goal.invariant-loop-step
invariant-loop-step l = record {
  long : length l.flags.items ≡ length l.bounds;
  from : (v : ℕ) → v + l.step ≡ length l.bounds → drop v l.flags.items ≡ flags (length l.bounds) l.parts v (drop v l.bounds);
}
