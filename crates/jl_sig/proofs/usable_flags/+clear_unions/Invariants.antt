use Rattle.std.proofs.Common.{◌≡◌, false, not, drop}
use Rattle.std.specs.List.{list_all}
use Rattle.jl_model.specs.Usable.{is_outside_unions}
use Rattle.jl_sig.specs.Flags.{with_flag}
use Rattle.jl_sig.proofs.usable_flags.+clear_unions.Given as goal

abbrev pub invariant-clear_unions_in-loop-ty : goal.invariant-clear_unions_in-loop-ty
invariant-clear_unions_in-loop-ty l =
    with_flag (λ v. not (list_all (is_outside_unions v) (drop l.ty-index l.types))) false 0 l.flags.items
    ≡ with_flag (λ v. not (list_all (is_outside_unions v) l.types)) false 0 l.initial.flags.items
