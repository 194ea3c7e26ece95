use Rattle.std.proofs.Common.{◌≡◌, ◌++◌, drop}
use Rattle.jl_ambig.proofs.lists.with.Given as goal

abbrev pub invariant-loop-part : goal.invariant-loop-part
invariant-loop-part l = (l.all.items ++ drop l.part-index l.list) ≡ l.list
