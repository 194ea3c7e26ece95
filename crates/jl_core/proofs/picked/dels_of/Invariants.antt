use Rattle.std.proofs.Common.{◌≡◌, ◌++◌, ◌+◌, drop}
use Rattle.jl_core.specs.Flags.{del_in, picked}
use Rattle.jl_core.proofs.picked.dels_of.Given as goal

abbrev pub invariant-loop-i : goal.invariant-loop-i
invariant-loop-i l = l.dels.items ++ picked del_in (l.i + 1) (drop l.i l.made) (drop l.i l.flags) ≡ picked del_in 1 l.made l.flags
