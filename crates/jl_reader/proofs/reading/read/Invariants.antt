use Rattle.std.proofs.Common.{length}
use Rattle.jl_reader.specs.Answers.{state_of}
use Rattle.jl_reader.proofs.Ended.{SoFar}
use Rattle.jl_reader.proofs.reading.read.Given as goal

-- the tokens so far lead to this state, and none of their items is too deep
abbrev pub invariant-loop-token : goal.invariant-loop-token
invariant-loop-token l = SoFar l.tokens l.left (state_of l.point l.reading)

abbrev pub decreases-loop-token : goal.decreases-loop-token
decreases-loop-token l = length l.left
