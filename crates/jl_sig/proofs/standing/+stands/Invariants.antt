use Rattle.std.proofs.Common.{◌≡◌, drop}
use Rattle.std.specs.List.{list_any}
use Rattle.jl_model.specs.Usable.{stands_in}
use Rattle.jl_sig.proofs.standing.+stands.Given as goal

abbrev pub invariant-stands_in_some-loop-ty : goal.invariant-stands_in_some-loop-ty
invariant-stands_in_some-loop-ty l = list_any (stands_in l.variable) l.types ≡ list_any (stands_in l.variable) (drop l.ty-index l.types)
