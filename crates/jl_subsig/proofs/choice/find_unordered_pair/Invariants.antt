use Rattle.std.proofs.Common.{◌≡◌, drop}
use Rattle.jl_subsig.specs.Decide.{unordered_pair}
use Rattle.jl_subsig.proofs.choice.find_unordered_pair.Given as goal

abbrev pub invariant-loop-i : goal.invariant-loop-i
invariant-loop-i l = unordered_pair l.answers l.candidates ≡ unordered_pair l.answers (drop l.i l.candidates)
