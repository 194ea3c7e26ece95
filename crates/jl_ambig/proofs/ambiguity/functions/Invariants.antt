use Rattle.std.proofs.Common.{◌≤◌, take}
use Rattle.jl_ambig.specs.Asked.{AreBelow}
use Rattle.jl_ambig.proofs.ambiguity.functions.Given as goal

abbrev pub invariant-loop-site : goal.invariant-loop-site
invariant-loop-site l = record {
  few : l.above ≤ 4294967296;
  all : AreBelow (take l.site-index l.ready.sites) l.above;
}
