use Rattle.std.proofs.Common.{◌≡◌, ◌<◌, ◌++◌, length, drop}
use Rattle.jl_program.specs.Seen.{join}
use Rattle.jl_program.proofs.env.Env.at.Given as goal

abbrev pub invariant-loop-chunk : goal.invariant-loop-chunk
invariant-loop-chunk l = record {
  there : l.left < length (join (drop l.chunk-index l.chunk-items) ++ l.self-inside.rest);
  left : drop l.slot (join l.chunk-items ++ l.self-inside.rest) ≡ drop l.left (join (drop l.chunk-index l.chunk-items) ++ l.self-inside.rest);
}
