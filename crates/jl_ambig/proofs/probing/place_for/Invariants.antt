use Rattle.std.proofs.Common.{◌≡◌, take}
use Rattle.std.specs.List.{All}
use Rattle.std.specs.declared.cmp.Ordering.TheVariants.{Less}
use Rattle.jl_model.specs.Order.{term_cmp}
use Rattle.jl_ambig.proofs.probing.place_for.Given as goal

abbrev pub invariant-loop-i : goal.invariant-loop-i
invariant-loop-i l = All (λ y. term_cmp y l.ty ≡ Less) (take l.i l.types)
