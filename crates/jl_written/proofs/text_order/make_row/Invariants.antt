use Rattle.std.proofs.Common.{◌≡◌, ◌++◌, drop}
use Rattle.jl_written.proofs.text_order.make_row.Given as goal

abbrev pub invariant-loop-bound : goal.invariant-loop-bound
invariant-loop-bound l = l.row ++ drop l.bound-index l.bounds ≡ l.bounds
