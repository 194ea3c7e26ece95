use Rattle.std.proofs.Common.{◌≡◌, ◌+◌, ◌*◌, map, drop}
use Rattle.jl_model.specs.declared.ty.Ty.TheViews.{size-Ty}
use Rattle.jl_types.specs.Ground.{tallest}
use Rattle.jl_model.specs.Ancestors.{table_of}
use Rattle.jl_model.specs.Found.{find_inner, first}
use Rattle.jl_subsig.specs.Side.{held}
use Rattle.jl_subsig.proofs.find.+inner.Given as goal

abbrev pub invariant-first_inner-loop-i : goal.invariant-first_inner-loop-i
invariant-first_inner-loop-i l =
    first (map (find_inner (table_of l.table) (held l.left l.row) l.variable) l.patterns) l.types ≡ first (map (find_inner (table_of l.table) (held l.left l.row) l.variable) (drop l.i l.patterns)) (drop l.i l.types)

abbrev pub decreases-first_inner : goal.decreases-first_inner
decreases-first_inner l = 2 * tallest l.patterns.now + 1

abbrev pub decreases-in_inner : goal.decreases-in_inner
decreases-in_inner l = 2 * size-Ty l.pattern.now
