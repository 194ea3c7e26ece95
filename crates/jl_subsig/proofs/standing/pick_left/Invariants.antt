use Rattle.std.proofs.Common.{List, ◌++◌, drop}
use Rattle.jl_calculus.specs.declared.history.Def.{Def}
use Rattle.jl_calculus.specs.Definitions.{HasSite}
use Rattle.jl_subsig.specs.Side.{Every}
use Rattle.jl_subsig.specs.Standing.{AreLeft}
use Rattle.jl_subsig.proofs.standing.pick_left.Given as goal

abbrev pub invariant-loop-def : goal.invariant-loop-def
invariant-loop-def l = record {
  goes_on : (rest : List Def) → AreLeft l.ready l.dels (drop l.def-index l.defs) rest → AreLeft l.ready l.dels l.defs (l.those.items ++ rest);
  sites : Every (HasSite l.ready) (drop l.def-index l.defs);
}
