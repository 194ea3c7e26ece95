use Rattle.std.proofs.Common.{◌≡◌, ◌++◌, drop}
use Rattle.jl_subsig.specs.Decide.{candidates}
use Rattle.jl_subsig.proofs.choice.find_candidates.Given as goal

abbrev pub invariant-loop-i : goal.invariant-loop-i
invariant-loop-i l = l.kept.items ++ candidates l.answers (drop l.i l.methods) ≡ candidates l.answers l.methods
