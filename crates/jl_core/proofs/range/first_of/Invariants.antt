use Rattle.jl_core.specs.Flags.{IsFirst}
use Rattle.jl_core.proofs.range.first_of.Given as goal

abbrev pub invariant-loop-d : goal.invariant-loop-d
invariant-loop-d l = IsFirst l.flags l.d l.first
