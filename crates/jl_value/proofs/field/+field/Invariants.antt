use Rattle.std.proofs.Common.{◌+◌, ◌*◌, map, drop}
use Rattle.jl_model.specs.declared.ty.Ty.TheViews.{size-Ty}
use Rattle.jl_types.specs.Ground.{tallest}
use Rattle.jl_model.specs.Ancestors.{table_of}
use Rattle.jl_model.specs.Subtype.{opaque, put, at, Below}
use Rattle.jl_model.specs.Signature.{Both}
use Rattle.jl_model.specs.Members.{BelowSome}
use Rattle.jl_value.proofs.field.+field.Given as goal

abbrev pub invariant-are_of-loop-i : goal.invariant-are_of-loop-i
invariant-are_of-loop-i l = record {
  whole : Both (Below (table_of l.table) opaque) (drop l.i l.lowers) (map (put (at l.args)) (drop l.i l.parts)) → Both (Below (table_of l.table) opaque) l.lowers (map (put (at l.args)) l.parts);
  rest : Both (Below (table_of l.table) opaque) l.lowers (map (put (at l.args)) l.parts) → Both (Below (table_of l.table) opaque) (drop l.i l.lowers) (map (put (at l.args)) (drop l.i l.parts));
}

abbrev pub invariant-is_of_some-loop-member : goal.invariant-is_of_some-loop-member
invariant-is_of_some-loop-member l =
    BelowSome (table_of l.table) l.lower (map (put (at l.args)) l.members) → BelowSome (table_of l.table) l.lower (map (put (at l.args)) (drop l.member-index l.members))

abbrev pub decreases-is_of : goal.decreases-is_of
decreases-is_of l = 2 * size-Ty l.field.now

abbrev pub decreases-is_of_some : goal.decreases-is_of_some
decreases-is_of_some l = 2 * tallest l.members.now + 1

abbrev pub decreases-are_of : goal.decreases-are_of
decreases-are_of l = 2 * tallest l.parts.now + 1
