use Rattle.std.proofs.Common.{drop}
use Rattle.jl_types.specs.Form.{AllSmall}
use Rattle.jl_types.proofs.form.are_small.Given as goal

abbrev pub invariant-loop-ty : goal.invariant-loop-ty
invariant-loop-ty l = AllSmall (drop l.ty-index l.types) → AllSmall l.types
