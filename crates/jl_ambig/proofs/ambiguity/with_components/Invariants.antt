use Rattle.std.proofs.Common.{◌≡◌, take, drop}
use Rattle.std.specs.List.{filter}
use Rattle.jl_calculus.specs.Definitions.{HasSite}
use Rattle.jl_subsig.specs.Side.{Every}
use Rattle.jl_ambig.specs.Asked.{has_components}
use Rattle.jl_ambig.proofs.ambiguity.with_components.Given as goal

abbrev pub invariant-loop-def : goal.invariant-loop-def
invariant-loop-def l = record {
  picked : l.those.items ≡ filter (has_components l.ready l.count) (take l.def-index l.defs);
  sites : Every (HasSite l.ready) (drop l.def-index l.defs);
}
