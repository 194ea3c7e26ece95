use Rattle.std.proofs.Common.{◌≡◌, drop, map}
use Rattle.jl_calculus.specs.Words.{link_of}
use Rattle.jl_core.specs.View.{row_of}
use Rattle.jl_core.proofs.LastLemmas.{then_last}
use Rattle.jl_core.proofs.words.link_of.Given as goal

abbrev pub invariant-loop-i : goal.invariant-loop-i
invariant-loop-i l = then_last l.link l.i (link_of l.key (map row_of (drop l.i l.rows))) ≡ link_of l.key (map row_of l.rows)
