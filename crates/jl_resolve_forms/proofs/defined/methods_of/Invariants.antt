use Rattle.std.proofs.Common.{◌≡◌, ◌++◌, drop}
use Rattle.jl_resolve_forms.specs.Defined.{methods_of}
use Rattle.jl_resolve_forms.proofs.defined.methods_of.Given as goal

abbrev pub invariant-loop-item : goal.invariant-loop-item
invariant-loop-item l = l.out ++ methods_of (drop l.item-index l.items) ≡ methods_of l.items
