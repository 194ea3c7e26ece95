use Rattle.std.proofs.Common.{◌≡◌, ◌++◌, false, map, drop}
use Rattle.jl_model.specs.declared.ty.Bound.{Bound}
use Rattle.jl_sig.proofs.usable_flags.no_flags.Given as goal

abbrev pub invariant-loop : goal.invariant-loop
invariant-loop l = l.flags.items ++ map (λ (b : Bound). false) (drop l.index l.vars) ≡ map (λ (b : Bound). false) l.vars
