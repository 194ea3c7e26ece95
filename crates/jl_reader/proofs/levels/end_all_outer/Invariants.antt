use Rattle.std.proofs.Common.{◌≡◌, length}
use Rattle.jl_grammar.specs.Levels.{end_all_outer}
use Rattle.jl_reader.proofs.levels.end_all_outer.Given as goal

-- the forms that are left make of the expression what all make of the first
abbrev pub invariant-loop-form : goal.invariant-loop-form
invariant-loop-form l = end_all_outer l.outer l.ending ≡ end_all_outer l.fn.outer l.fn.e

abbrev pub decreases-loop-form : goal.decreases-loop-form
decreases-loop-form l = length l.outer
