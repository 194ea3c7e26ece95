use Rattle.std.proofs.Common.{◌≡◌, ◌++◌, drop}
use Rattle.jl_resolve_forms.specs.Defined.{types_of}
use Rattle.jl_resolve_forms.proofs.defined.types_of.Given as goal

abbrev pub invariant-loop-item : goal.invariant-loop-item
invariant-loop-item l = l.out ++ types_of (drop l.item-index l.items) ≡ types_of l.items
