use Rattle.std.proofs.Common.{◌≡◌, drop, map}
use Rattle.jl_program.specs.Names.{is_among}
use Rattle.jl_written.proofs.names.is_one_of.Given as goal

abbrev pub invariant-loop-known : goal.invariant-loop-known
invariant-loop-known l = is_among l.word (map (λ w. w.now) (drop l.known-index l.words)) ≡ is_among l.word (map (λ w. w.now) l.words)
