use Rattle.std.proofs.Common.{◌≡◌, List, ◌++◌, drop}
use Rattle.jl_calculus.specs.declared.history.Def.{Def}
use Rattle.jl_calculus.specs.Definitions.{HasSite}
use Rattle.jl_subsig.specs.Side.{Every}
use Rattle.jl_choosing.specs.Picked.{Picked}
use Rattle.jl_choosing.specs.Tested.{AreTested}
use Rattle.jl_choosing.proofs.choosing.pick.Given as goal

abbrev pub invariant-loop-def : goal.invariant-loop-def
invariant-loop-def l = record {
  goes_on : (rest : List Def) → Picked l.ready l.initial.tested.types (drop l.def-index l.defs) rest → Picked l.ready l.initial.tested.types l.defs (l.those.items ++ rest);
  sites : Every (HasSite l.ready) (drop l.def-index l.defs);
  tested : AreTested l.ready l.tested;
  types_are : l.tested.types ≡ l.initial.tested.types;
}
