use Rattle.jl_calculus.specs.World.{changes}
use Rattle.jl_ambig.specs.Asked.{AreEnds, AreUnexaminedUpTo}
use Rattle.jl_ambig.proofs.beyond.unexamined.Given as goal

abbrev pub invariant-loop-i : goal.invariant-loop-i
invariant-loop-i l = record {
  ends : AreEnds l.ready (changes l.events) l.ends.items;
  found : AreUnexaminedUpTo l.ready l.events l.i l.worlds.items;
}
