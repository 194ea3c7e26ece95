use Rattle.std.proofs.Common.{◌≡◌, length}
use Rattle.jl_grammar.specs.Levels.{with_prefixes}
use Rattle.jl_reader.proofs.levels.with_prefixes.Given as goal

-- the operators that are left make of the form what all make of the operand
abbrev pub invariant-loop-prefix : goal.invariant-loop-prefix
invariant-loop-prefix l = with_prefixes l.prefixes l.form ≡ with_prefixes l.fn.prefixes l.fn.e

abbrev pub decreases-loop-prefix : goal.decreases-loop-prefix
decreases-loop-prefix l = length l.prefixes
