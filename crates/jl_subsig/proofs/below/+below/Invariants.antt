use Rattle.std.proofs.Common.{◌+◌, ◌*◌, drop}
use Rattle.jl_model.specs.declared.ty.Ty.TheViews.{size-Ty}
use Rattle.jl_model.specs.declared.ty.Ty.TheViews as V
use Rattle.jl_types.specs.Ground.{tallest}
use Rattle.jl_model.specs.Ancestors.{table_of}
use Rattle.jl_model.specs.Subtype.{Below}
use Rattle.jl_model.specs.Signature.{Both}
use Rattle.jl_subsig.specs.Side.{held, AnyOf}
use Rattle.jl_subsig.proofs.RankLemmas.{rank}
use Rattle.jl_subsig.proofs.below.+below.Given as goal

abbrev pub invariant-are_below-loop-i : goal.invariant-are_below-loop-i
invariant-are_below-loop-i l = record {
  whole : Both (Below (table_of l.table) (held l.left l.row)) (drop l.i l.parts) (drop l.i l.uppers) → Both (Below (table_of l.table) (held l.left l.row)) l.parts l.uppers;
  rest : Both (Below (table_of l.table) (held l.left l.row)) l.parts l.uppers → Both (Below (table_of l.table) (held l.left l.row)) (drop l.i l.parts) (drop l.i l.uppers);
}

abbrev pub invariant-is_tuple_below_some-loop-upper : goal.invariant-is_tuple_below_some-loop-upper
invariant-is_tuple_below_some-loop-upper l =
    AnyOf (λ u. Below (table_of l.table) (held l.left l.row) (V.Tuple l.parts) u) l.uppers → AnyOf (λ u. Below (table_of l.table) (held l.left l.row) (V.Tuple l.parts) u) (drop l.upper-index l.uppers)

abbrev pub decreases-is_below : goal.decreases-is_below
decreases-is_below l = 8 * size-Ty l.ty.now

abbrev pub decreases-are_below : goal.decreases-are_below
decreases-are_below l = 8 * tallest l.parts.now + 1

abbrev pub decreases-is_tuple_below : goal.decreases-is_tuple_below
decreases-is_tuple_below l = 8 * tallest l.parts.now + rank l.upper.now + 1

abbrev pub decreases-is_tuple_below_some : goal.decreases-is_tuple_below_some
decreases-is_tuple_below_some l = 8 * tallest l.parts.now + 3
