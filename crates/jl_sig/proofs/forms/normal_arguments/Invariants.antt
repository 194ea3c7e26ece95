use Rattle.std.proofs.Common.{◌++◌, drop, List}
use Rattle.jl_model.specs.Refusals.{Given}
use Rattle.jl_sig.specs.Parts.{all_given}
use Rattle.jl_sig.specs.Forms.{AreFormed}
use Rattle.jl_sig.proofs.forms.normal_arguments.Given as goal

abbrev pub invariant-loop-argument : goal.invariant-loop-argument
invariant-loop-argument l =
    (hs : List Given) → AreFormed l.table (all_given (drop l.argument-index l.arguments)) hs → AreFormed l.table (all_given l.arguments) (all_given l.forms.items ++ hs)
