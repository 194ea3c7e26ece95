use Rattle.std.proofs.Common.{◌+◌, ◌*◌, drop}
use Rattle.jl_model.specs.declared.ty.Ty.TheViews.{size-Ty}
use Rattle.jl_types.specs.Ground.{tallest}
use Rattle.jl_model.specs.Ancestors.{table_of}
use Rattle.jl_model.specs.Subtype.{opaque, at}
use Rattle.jl_model.specs.Signature.{Both, Meets}
use Rattle.jl_match.proofs.meet.+meet.Given as goal

abbrev pub invariant-meet_all-loop-i : goal.invariant-meet_all-loop-i
invariant-meet_all-loop-i l = record {
  whole : Both (Meets (table_of l.table) opaque l.signature (at l.values)) (drop l.i l.types) (drop l.i l.parts) → Both (Meets (table_of l.table) opaque l.signature (at l.values)) l.types l.parts;
  rest : Both (Meets (table_of l.table) opaque l.signature (at l.values)) l.types l.parts → Both (Meets (table_of l.table) opaque l.signature (at l.values)) (drop l.i l.types) (drop l.i l.parts);
}

abbrev pub decreases-meet_all : goal.decreases-meet_all
decreases-meet_all l = 2 * tallest l.parts.now + 1

abbrev pub decreases-meets : goal.decreases-meets
decreases-meets l = 2 * size-Ty l.part.now
