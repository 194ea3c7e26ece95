use Rattle.std.proofs.Common.{◌≡◌, drop}
use Rattle.std.specs.List.{list_any}
use Rattle.jl_model.specs.Usable.{stands_in}
use Rattle.jl_sig.specs.Flags.{with_flag}
use Rattle.jl_sig.proofs.usable_flags.+set_stands.Given as goal

abbrev pub invariant-set_standing_in-loop-ty : goal.invariant-set_standing_in-loop-ty
invariant-set_standing_in-loop-ty l =
    with_flag (λ v. list_any (stands_in v) (drop l.ty-index l.types)) l.value 0 l.flags.items
    ≡ with_flag (λ v. list_any (stands_in v) l.types) l.value 0 l.initial.flags.items
