use Rattle.std.proofs.Common.{◌≡◌, drop}
use Rattle.std.specs.List.{list_all}
use Rattle.jl_model.specs.Usable.{is_outside_unions}
use Rattle.jl_sig.proofs.usable.+outside.Given as goal

abbrev pub invariant-are_outside_unions-loop-ty : goal.invariant-are_outside_unions-loop-ty
invariant-are_outside_unions-loop-ty l = list_all (is_outside_unions l.variable) l.types ≡ list_all (is_outside_unions l.variable) (drop l.ty-index l.types)
