use Rattle.std.proofs.Common.{◌≡◌, ◌++◌, drop, map}
use Rattle.jl_declare.proofs.known.texts.Given as goal

abbrev pub invariant-loop-word : goal.invariant-loop-word
invariant-loop-word l = (l.out ++ map (λ w. w.now) (drop l.word-index l.words)) ≡ map (λ w. w.now) l.words
