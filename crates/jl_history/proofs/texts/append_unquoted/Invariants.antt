use Rattle.std.proofs.Common.{◌≡◌, length}
use Rattle.jl_history.specs.Fields.{in_front, unquoted}
use Rattle.jl_history.proofs.texts.append_unquoted.Given as goal

-- what was read stands in front of what the rest stands for
abbrev pub invariant-loop-byte : goal.invariant-loop-byte
invariant-loop-byte l = in_front l.out (unquoted l.rest) ≡ in_front l.initial.out (unquoted l.text)

abbrev pub decreases-loop-byte : goal.decreases-loop-byte
decreases-loop-byte l = length l.rest
