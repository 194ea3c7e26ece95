use Rattle.std.proofs.Common.{◌+◌, ◌*◌}
use Rattle.jl_model.specs.Counts.{nodes}
use Rattle.jl_model.proofs.CountLemmas.{nodes_all}
use Rattle.jl_norm.proofs.outside.+next.Given as goal

abbrev pub decreases-is_above : goal.decreases-is_above
decreases-is_above l = 2 * nodes l.upper.now

abbrev pub decreases-is_some_above : goal.decreases-is_some_above
decreases-is_some_above l = 2 * nodes_all l.uppers.now + 1
