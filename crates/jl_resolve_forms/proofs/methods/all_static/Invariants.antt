use Rattle.std.proofs.Common.{◌≡◌, ◌++◌, drop}
use Rattle.jl_resolve_forms.specs.Expressions.{static_parameters}
use Rattle.jl_resolve_forms.proofs.methods.all_static.Given as goal

abbrev pub invariant-loop-var : goal.invariant-loop-var
invariant-loop-var l = l.statics.items ++ static_parameters l.written (drop l.var-index l.vars) ≡ static_parameters l.written l.vars
