use Rattle.std.proofs.Common.{◌≡◌, length, take}
use Rattle.jl_names.proofs.stack.NameStack.truncate.Given as goal

abbrev pub invariant-loop-self : goal.invariant-loop-self
invariant-loop-self l = take l.most l.self ≡ take l.most l.initial.self

abbrev pub decreases-loop-self : goal.decreases-loop-self
decreases-loop-self l = length l.self
