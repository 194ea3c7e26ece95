use Rattle.std.proofs.Common.{◌≡◌, ◌++◌, drop}
use Rattle.jl_program.specs.Seen.{join}
use Rattle.jl_machine.proofs.SeenLemmas.{with_more}
use Rattle.jl_machine.proofs.machine.open_env.Given as goal

abbrev pub invariant-loop-chunk : goal.invariant-loop-chunk
invariant-loop-chunk l = with_more l.frames (join (drop l.chunk-index l.chunks) ++ l.rest) ≡ with_more l.initial.frames (join l.chunks ++ l.rest)
