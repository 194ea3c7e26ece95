use Rattle.std.proofs.Common.{◌≡◌, ◌+◌, length, drop}
use Rattle.jl_program.specs.Seen.{join}
use Rattle.jl_program.proofs.env.count_values.Given as goal

abbrev pub invariant-loop-chunk : goal.invariant-loop-chunk
invariant-loop-chunk l = l.count + length (join (drop l.chunk-index l.chunks)) ≡ length (join l.chunks) + l.rest
