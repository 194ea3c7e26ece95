use Rattle.std.proofs.Common.{◌≡◌, ◌++◌, take, drop}
use Rattle.jl_choosing.specs.ByFunction.{in_world}
use Rattle.jl_choosing.proofs.changes.before.Given as goal

abbrev pub invariant-loop-i : goal.invariant-loop-i
invariant-loop-i l = take l.i l.defs ++ in_world l.world (drop l.i l.defs) ≡ in_world l.world l.defs
