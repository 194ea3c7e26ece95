use Rattle.std.proofs.Common.{◌≡◌, ◌++◌, drop}
use Rattle.jl_program.specs.Scope.{all_types}
use Rattle.jl_calculus.specs.Definitions.{methods_of, HasSite}
use Rattle.jl_subsig.specs.Side.{Every}
use Rattle.jl_subsig.specs.Decide.{methods_in, IsSound}
use Rattle.jl_subsig.proofs.definitions.methods_of.Given as goal

abbrev pub invariant-loop-def : goal.invariant-loop-def
invariant-loop-def l = record {
  made : methods_in l.methods.items ++ methods_of l.ready (drop l.def-index l.defs) ≡ methods_of l.ready l.defs;
  sound : Every (IsSound (all_types l.ready)) l.methods.items;
  rest : Every (HasSite l.ready) (drop l.def-index l.defs);
}
