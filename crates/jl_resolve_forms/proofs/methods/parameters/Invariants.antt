use Rattle.std.proofs.Common.{◌≡◌, drop}
use Rattle.jl_resolve_forms.specs.Expressions.{parameters}
use Rattle.jl_resolve_forms.proofs.methods.parameters.Given as goal

abbrev pub invariant-loop-param : goal.invariant-loop-param
invariant-loop-param l = parameters (drop l.param-index l.params) l.scope l.state ≡ parameters l.params l.initial.scope l.initial.state
