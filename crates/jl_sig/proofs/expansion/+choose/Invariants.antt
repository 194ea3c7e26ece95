use Rattle.std.proofs.Common.{length}
use Rattle.jl_sig.proofs.expansion.+choose.Given as goal

abbrev pub decreases-choose : goal.decreases-choose
decreases-choose l = length l.lists.now
