use Rattle.std.proofs.Common.{◌≡◌, Some, map, drop}
use Rattle.jl_model.specs.declared.ty.Ty.TheViews.{out-Ty}
use Rattle.jl_model.specs.Ancestors.{table_of}
use Rattle.jl_model.specs.Subtype.{put, at}
use Rattle.jl_subsig.specs.Side.{lift_to, Every}
use Rattle.jl_subsig.proofs.serve.are_applied.Given as goal

abbrev pub invariant-loop-ty : goal.invariant-loop-ty
invariant-loop-ty l =
    Every (λ t. lift_to (table_of l.table) l.target (out-Ty t) ≡ Some (map (put (at l.values)) l.arguments)) (drop l.ty-index l.types) → Every (λ t. lift_to (table_of l.table) l.target (out-Ty t) ≡ Some (map (put (at l.values)) l.arguments)) l.types
