use Rattle.std.proofs.Common.{take, drop}
use Rattle.jl_subsig.specs.Side.{Every}
use Rattle.jl_subsig.specs.Standing.{HasPlace, IsLeft}
use Rattle.jl_subsig.proofs.standing.is_left.Given as goal

abbrev pub invariant-loop-del : goal.invariant-loop-del
invariant-loop-del l = record {
  so_far : IsLeft l.ready (take l.del-index l.dels) l.def;
  places : Every (HasPlace l.ready) (drop l.del-index l.dels);
}
