use Rattle.std.proofs.Common.{drop}
use Rattle.jl_sig.specs.Forms.{HasCrossed}
use Rattle.jl_sig.proofs.forms.have_crossed.Given as goal

abbrev pub invariant-loop-bound : goal.invariant-loop-bound
invariant-loop-bound l = HasCrossed l.table l.bounds → HasCrossed l.table (drop l.bound-index l.bounds)
