use Rattle.std.proofs.Common.{◌≡◌, take, drop}
use Rattle.jl_causes.specs.KeyTexts.{word_at}
use Rattle.jl_causes.proofs.ReadLemmas.{front}
use Rattle.jl_causes.proofs.type_text.split_word.Given as goal

abbrev pub invariant-loop-end : goal.invariant-loop-end
invariant-loop-end l = front (take l.end l.text) (word_at (drop l.end l.text)) ≡ word_at l.text
