use Rattle.std.proofs.Common.{◌≡◌, ◌++◌, ◌*◌, map, drop}
use Rattle.jl_program.specs.Meaning.{datum}
use Rattle.jl_program.specs.Seen.{join}
use Rattle.jl_value.proofs.share.share_env.Given as goal

abbrev pub invariant-loop-number : goal.invariant-loop-number
invariant-loop-number l = map datum (join l.chunks.items ++ drop (l.number * 64) l.values) ≡ map datum l.values
