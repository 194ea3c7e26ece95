use Rattle.std.proofs.Common.{◌≡◌, drop}
use Rattle.jl_calculus.specs.Words.{after_last, is_fill_of, fill_length}
use Rattle.jl_core.proofs.LastLemmas.{then_last}
use Rattle.jl_core.proofs.events.fill_length.Given as goal

abbrev pub invariant-loop-i : goal.invariant-loop-i
invariant-loop-i l = then_last l.count l.i (after_last (is_fill_of l.number) (drop l.i l.events)) ≡ fill_length l.number l.events
