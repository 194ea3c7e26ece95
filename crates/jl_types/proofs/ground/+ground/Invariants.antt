use Rattle.std.proofs.Common.{◌+◌, ◌*◌, drop}
use Rattle.jl_model.specs.declared.ty.Ty.TheViews.{size-Ty}
use Rattle.jl_types.specs.Ground.{tallest}
use Rattle.jl_model.specs.Ancestors.{table_of}
use Rattle.jl_model.specs.Subtype.{opaque, Below}
use Rattle.jl_model.specs.Signature.{Both}
use Rattle.jl_model.specs.Members.{BelowSome}
use Rattle.jl_types.proofs.ground.+ground.Given as goal

abbrev pub invariant-are_above-loop-i : goal.invariant-are_above-loop-i
invariant-are_above-loop-i l = record {
  whole : Both (Below (table_of l.table) opaque) (drop l.i l.lowers) (drop l.i l.uppers) → Both (Below (table_of l.table) opaque) l.lowers l.uppers;
  rest : Both (Below (table_of l.table) opaque) l.lowers l.uppers → Both (Below (table_of l.table) opaque) (drop l.i l.lowers) (drop l.i l.uppers);
}

abbrev pub invariant-is_some_above-loop-upper : goal.invariant-is_some_above-loop-upper
invariant-is_some_above-loop-upper l = BelowSome (table_of l.table) l.lower l.uppers → BelowSome (table_of l.table) l.lower (drop l.upper-index l.uppers)

abbrev pub decreases-is_above : goal.decreases-is_above
decreases-is_above l = 2 * size-Ty l.upper.now

abbrev pub decreases-is_some_above : goal.decreases-is_some_above
decreases-is_some_above l = 2 * tallest l.uppers.now + 1

abbrev pub decreases-are_above : goal.decreases-are_above
decreases-are_above l = 2 * tallest l.uppers.now + 1
