use Rattle.std.proofs.Common.{◌≡◌, drop}
use Rattle.jl_calculus.specs.Past.{own_items}
use Rattle.jl_core.proofs.trace.next_own.Given as goal

abbrev pub invariant-loop-i : goal.invariant-loop-i
invariant-loop-i l = own_items (drop l.i l.trace) ≡ own_items l.trace
