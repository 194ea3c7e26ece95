use Rattle.std.proofs.Common.{◌≡◌, drop}
use Rattle.jl_command.specs.Rule.{are_known}
use Rattle.jl_command.specs.Texts.{texts}
use Rattle.jl_command.proofs.forms.are_known.Given as goal

abbrev pub invariant-loop-word : goal.invariant-loop-word
invariant-loop-word l = are_known (texts l.words) ≡ are_known (texts (drop l.word-index l.words))
