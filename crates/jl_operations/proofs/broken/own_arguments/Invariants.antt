use Rattle.std.proofs.Common.{◌≡◌, ◌++◌, drop}
use Rattle.jl_model.specs.Refusals.{given_from}
use Rattle.jl_sig.specs.Parts.{all_given}
use Rattle.jl_operations.proofs.broken.own_arguments.Given as goal

abbrev pub invariant-loop-place : goal.invariant-loop-place
invariant-loop-place l = (all_given l.own.items ++ given_from l.name l.place (drop l.place l.types)) ≡ given_from l.name 0 l.types
