use Rattle.std.proofs.Common.{◌≡◌, map, drop}
use Rattle.jl_program.specs.Meaning.{datum}
use Rattle.jl_value.proofs.share.has_values.Given as goal

abbrev pub invariant-loop-i : goal.invariant-loop-i
invariant-loop-i l = map datum (drop l.i l.chunk) ≡ map datum (drop l.i l.values) → map datum l.chunk ≡ map datum l.values
