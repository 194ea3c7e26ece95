use Rattle.std.proofs.Common.{◌+◌, ◌*◌, drop}
use Rattle.jl_model.specs.declared.ty.Ty.TheViews.{size-Ty}
use Rattle.jl_types.specs.Ground.{tallest}
use Rattle.jl_model.specs.Ancestors.{table_of}
use Rattle.jl_model.specs.Subtype.{Below}
use Rattle.jl_model.specs.Signature.{Both}
use Rattle.jl_subsig.specs.Side.{held, Every}
use Rattle.jl_subsig.proofs.below.+rigid.Given as goal

abbrev pub invariant-are_rigid_below-loop-ty : goal.invariant-are_rigid_below-loop-ty
invariant-are_rigid_below-loop-ty l = Every (λ t. Below (table_of l.table) (held l.left l.row) t l.upper) (drop l.ty-index l.types) → Every (λ t. Below (table_of l.table) (held l.left l.row) t l.upper) l.types

abbrev pub invariant-are_rigid_parts_below-loop-i : goal.invariant-are_rigid_parts_below-loop-i
invariant-are_rigid_parts_below-loop-i l = record {
  whole : Both (Below (table_of l.table) (held l.left l.row)) (drop l.i l.parts) (drop l.i l.uppers) → Both (Below (table_of l.table) (held l.left l.row)) l.parts l.uppers;
  rest : Both (Below (table_of l.table) (held l.left l.row)) l.parts l.uppers → Both (Below (table_of l.table) (held l.left l.row)) (drop l.i l.parts) (drop l.i l.uppers);
}

abbrev pub decreases-is_rigid_below : goal.decreases-is_rigid_below
decreases-is_rigid_below l = 2 * (size-Ty l.ty.now + size-Ty l.upper.now)

abbrev pub decreases-are_rigid_below : goal.decreases-are_rigid_below
decreases-are_rigid_below l = 2 * (tallest l.types.now + size-Ty l.upper.now) + 1

abbrev pub decreases-are_rigid_parts_below : goal.decreases-are_rigid_parts_below
decreases-are_rigid_parts_below l = 2 * (tallest l.parts.now + tallest l.uppers.now) + 1
