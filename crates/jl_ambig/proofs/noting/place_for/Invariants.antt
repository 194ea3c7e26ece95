use Rattle.std.proofs.Common.{◌≡◌, [], take}
use Rattle.std.specs.List.{All}
use Rattle.std.specs.declared.cmp.Ordering.TheVariants.{Less}
use Rattle.jl_ambig.specs.Asked.{pair_of}
use Rattle.jl_ambig.specs.Pairs.{pair_cmp}
use Rattle.jl_ambig.proofs.noting.place_for.Given as goal

abbrev pub invariant-loop-i : goal.invariant-loop-i
invariant-loop-i l = All (λ y. pair_cmp y (pair_of l.a l.b []) ≡ Less) (take l.i l.pairs)
