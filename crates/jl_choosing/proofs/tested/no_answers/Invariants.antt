use Rattle.std.proofs.Common.{◌≡◌, ℕ, None, get_or, length}
use Rattle.jl_choosing.proofs.tested.no_answers.Given as goal

abbrev pub invariant-loop : goal.invariant-loop
invariant-loop l = record {
  many : length l.answers.items ≡ l.counter;
  none : (site : ℕ) → get_or l.answers.items site None ≡ None;
}
