use Rattle.std.proofs.Common.{◌≡◌, ◌++◌, drop}
use Rattle.std.specs.List.{flat_map}
use Rattle.jl_model.specs.Refusals.{given_in}
use Rattle.jl_sig.specs.Parts.{all_given}
use Rattle.jl_sig.proofs.arguments.+arguments.Given as goal

abbrev pub invariant-push_arguments_of_all-loop-ty : goal.invariant-push_arguments_of_all-loop-ty
invariant-push_arguments_of_all-loop-ty l = (all_given l.arguments.items ++ flat_map given_in (drop l.ty-index l.types)) ≡ all_given l.initial.arguments.items ++ flat_map given_in l.types
