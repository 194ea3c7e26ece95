use Rattle.std.proofs.Common.{length}
use Rattle.jl_norm.proofs.arguments.+is_one_outside.Given as goal

abbrev pub decreases-is_one_outside : goal.decreases-is_one_outside
decreases-is_one_outside l = length l.arguments.now
