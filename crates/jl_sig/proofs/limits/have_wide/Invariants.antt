use Rattle.std.proofs.Common.{drop}
use Rattle.jl_sig.specs.Parts.{HasWide}
use Rattle.jl_sig.proofs.limits.have_wide.Given as goal

abbrev pub invariant-loop-ty : goal.invariant-loop-ty
invariant-loop-ty l = HasWide l.types → HasWide (drop l.ty-index l.types)
