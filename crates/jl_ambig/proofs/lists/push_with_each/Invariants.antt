use Rattle.std.proofs.Common.{◌≡◌, ◌++◌, drop}
use Rattle.jl_ambig.specs.Probes.{with_each}
use Rattle.jl_ambig.proofs.lists.push_with_each.Given as goal

abbrev pub invariant-loop-ty : goal.invariant-loop-ty
invariant-loop-ty l = (l.out.items ++ with_each l.list (drop l.ty-index l.types)) ≡ l.fn.out.items ++ with_each l.list l.types
