use Rattle.std.proofs.Common.{◌≡◌, drop}
use Rattle.jl_resolve_forms.specs.Defined.{with_names}
use Rattle.jl_resolve_forms.proofs.defined.with_names.Given as goal

abbrev pub invariant-loop-name : goal.invariant-loop-name
invariant-loop-name l = with_names l.out (drop l.name-index l.names) ≡ with_names l.initial.out l.names
