use Rattle.std.proofs.Common.{◌≡◌, ◌++◌, drop}
use Rattle.jl_program.specs.Seen.{join}
use Rattle.jl_core.proofs.MentionLemmas.{mentioned}
use Rattle.jl_core.proofs.mention.in_start.Given as goal

abbrev pub invariant-loop-chunk : goal.invariant-loop-chunk
invariant-loop-chunk l = l.tasks.items ++ mentioned (join (drop l.chunk-index l.chunks) ++ l.rest) ≡ mentioned (join l.chunks ++ l.rest)
