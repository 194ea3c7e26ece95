use Rattle.std.proofs.Common.{drop}
use Rattle.jl_sig.specs.Parts.{all_given}
use Rattle.jl_sig.specs.Forms.{HasOutside}
use Rattle.jl_sig.proofs.forms.have_outside.Given as goal

abbrev pub invariant-loop-argument : goal.invariant-loop-argument
invariant-loop-argument l = HasOutside l.table (all_given l.arguments) → HasOutside l.table (all_given (drop l.argument-index l.arguments))
