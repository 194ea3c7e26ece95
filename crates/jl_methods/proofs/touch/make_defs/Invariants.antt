use Rattle.std.proofs.Common.{◌≡◌, ◌++◌, drop}
use Rattle.jl_methods.specs.Filters.{defs_at}
use Rattle.jl_methods.proofs.touch.make_defs.Given as goal

abbrev pub invariant-loop-world : goal.invariant-loop-world
invariant-loop-world l = l.defs.items ++ defs_at l.changes (drop l.world-index l.worlds) ≡ defs_at l.changes l.worlds
