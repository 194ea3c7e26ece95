use Rattle.std.proofs.Common.{◌≡◌, ◌+◌, drop}
use Rattle.jl_search.specs.Occurring.{in_flagged}
use Rattle.jl_search.proofs.occurs.in_flagged.Given as goal

abbrev pub invariant-loop-later : goal.invariant-loop-later
invariant-loop-later l =
    in_flagged l.width l.variable (drop (l.variable + 1) l.bounds) (drop (l.variable + 1) l.flags) ≡ in_flagged l.width l.variable (drop l.later l.bounds) (drop l.later l.flags)
