use Rattle.std.proofs.Common.{◌<◌, length}
use Rattle.jl_subsig.proofs.best.find_likely.Given as goal

abbrev pub invariant-loop-place : goal.invariant-loop-place
invariant-loop-place l = l.likely < length l.methods
