use Rattle.std.proofs.Common.{take}
use Rattle.jl_core.specs.Flags.{IsTouching, AreFlags}
use Rattle.jl_core.proofs.range.flags_of.Given as goal

abbrev pub invariant-loop-change : goal.invariant-loop-change
invariant-loop-change l = AreFlags (IsTouching l.ready l.key) (take l.change-index l.made) l.flags.items
