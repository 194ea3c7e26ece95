use Rattle.std.proofs.Common.{◌+◌, ◌*◌, drop}
use Rattle.jl_model.specs.declared.ty.Ty.TheViews.{size-Ty}
use Rattle.jl_types.specs.Ground.{tallest}
use Rattle.jl_model.specs.Ancestors.{table_of}
use Rattle.jl_model.specs.Subtype.{at}
use Rattle.jl_model.specs.Signature.{Both, Meets}
use Rattle.jl_subsig.specs.Side.{held, sided}
use Rattle.jl_subsig.proofs.meet.+meet.Given as goal

abbrev pub invariant-meet_all-loop-i : goal.invariant-meet_all-loop-i
invariant-meet_all-loop-i l = record {
  whole : Both (Meets (table_of l.table) (held l.left l.row) (sided l.right) (at l.values)) (drop l.i l.types) (drop l.i l.uppers) → Both (Meets (table_of l.table) (held l.left l.row) (sided l.right) (at l.values)) l.types l.uppers;
  rest : Both (Meets (table_of l.table) (held l.left l.row) (sided l.right) (at l.values)) l.types l.uppers → Both (Meets (table_of l.table) (held l.left l.row) (sided l.right) (at l.values)) (drop l.i l.types) (drop l.i l.uppers);
}

abbrev pub decreases-meet_all : goal.decreases-meet_all
decreases-meet_all l = 2 * tallest l.uppers.now + 1

abbrev pub decreases-meets : goal.decreases-meets
decreases-meets l = 2 * size-Ty l.upper.now
