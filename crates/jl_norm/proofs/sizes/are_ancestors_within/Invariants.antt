use Rattle.std.proofs.Common.{drop}
use Rattle.jl_model.specs.Refusals.{AllWithinLimits}
use Rattle.jl_norm.proofs.SizeLemmas.{above_types}
use Rattle.jl_norm.proofs.sizes.are_ancestors_within.Given as goal

abbrev pub invariant-loop-ancestor : goal.invariant-loop-ancestor
invariant-loop-ancestor l = record {
  whole : AllWithinLimits (above_types l.args (drop l.ancestor-index l.line)) → AllWithinLimits (above_types l.args l.line);
  rest : AllWithinLimits (above_types l.args l.line) → AllWithinLimits (above_types l.args (drop l.ancestor-index l.line));
}
