use Rattle.std.proofs.Common.{◌≡◌, drop}
use Rattle.std.specs.List.{list_any}
use Rattle.jl_model.specs.Refusals.{bound_types}
use Rattle.jl_model.specs.Usable.{stands_in}
use Rattle.jl_sig.specs.Flags.{with_flag}
use Rattle.jl_sig.proofs.usable_flags.set_standing_in_bounds.Given as goal

abbrev pub invariant-loop-bound : goal.invariant-loop-bound
invariant-loop-bound l =
    with_flag (λ v. list_any (stands_in v) (bound_types (drop l.bound-index l.bounds))) l.value 0 l.flags.items
    ≡ with_flag (λ v. list_any (stands_in v) (bound_types l.bounds)) l.value 0 l.initial.flags.items
