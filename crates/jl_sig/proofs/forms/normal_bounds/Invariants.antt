use Rattle.std.proofs.Common.{◌++◌, drop, List}
use Rattle.jl_model.specs.declared.ty.Bound.{Bound}
use Rattle.jl_model.specs.Signature.{Both}
use Rattle.jl_model.specs.Refusals.{bound_types}
use Rattle.jl_sig.specs.Forms.{IsBoundForm}
use Rattle.jl_sig.proofs.forms.normal_bounds.Given as goal

abbrev pub invariant-loop-bound : goal.invariant-loop-bound
invariant-loop-bound l =
    (cs : List Bound) → Both (IsBoundForm l.table) (bound_types (drop l.bound-index l.bounds)) (bound_types cs) → Both (IsBoundForm l.table) (bound_types l.bounds) (bound_types (l.forms.items ++ cs))
