use Rattle.std.proofs.Common.{◌≡◌, true, drop}
use Rattle.std.specs.List.{list_any}
use Rattle.jl_sig.specs.Flags.{with_flag, is_below}
use Rattle.jl_sig.proofs.usable_flags.+set_below.Given as goal

abbrev pub invariant-set_below_in-loop-ty : goal.invariant-set_below_in-loop-ty
invariant-set_below_in-loop-ty l =
    with_flag (λ v. list_any (is_below v) (drop l.ty-index l.types)) true 0 l.flags.items
    ≡ with_flag (λ v. list_any (is_below v) l.types) true 0 l.initial.flags.items
