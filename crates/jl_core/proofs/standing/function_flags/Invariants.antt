use Rattle.std.proofs.Common.{take}
use Rattle.jl_core.specs.Flags.{IsOfFunction, AreFlags}
use Rattle.jl_core.proofs.standing.function_flags.Given as goal

abbrev pub invariant-loop-change : goal.invariant-loop-change
invariant-loop-change l = AreFlags (IsOfFunction l.program l.function) (take l.change-index l.made) l.flags.items
