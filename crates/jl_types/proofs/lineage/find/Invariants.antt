use Rattle.std.proofs.Common.{◌≡◌, drop}
use Rattle.jl_model.specs.Ancestors.{args_of}
use Rattle.jl_types.specs.Lines.{line_in}
use Rattle.jl_types.proofs.lineage.find.Given as goal

abbrev pub invariant-loop-ancestor : goal.invariant-loop-ancestor
invariant-loop-ancestor l = args_of l.target (line_in l.line) ≡ args_of l.target (line_in (drop l.ancestor-index l.line))
