use Rattle.std.proofs.Common.{take, drop}
use Rattle.jl_subsig.specs.Side.{Every}
use Rattle.jl_subsig.specs.Standing.{HasPlace, IsLastDeletion}
use Rattle.jl_ambig.proofs.beyond.last_deletion.Given as goal

abbrev pub invariant-loop-del : goal.invariant-loop-del
invariant-loop-del l = record {
  so_far : IsLastDeletion l.ready (take l.del-index l.dels) l.site l.last;
  places : Every (HasPlace l.ready) (drop l.del-index l.dels);
}
