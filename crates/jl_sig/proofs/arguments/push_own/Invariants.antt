use Rattle.std.proofs.Common.{◌≡◌, ◌++◌, drop}
use Rattle.jl_model.specs.Refusals.{given_from}
use Rattle.jl_sig.specs.Parts.{all_given}
use Rattle.jl_sig.proofs.arguments.push_own.Given as goal

abbrev pub invariant-loop-place : goal.invariant-loop-place
invariant-loop-place l = (all_given l.arguments.items ++ given_from l.of l.place (drop l.place l.types)) ≡ all_given l.initial.arguments.items ++ given_from l.of 0 l.types
