use Rattle.std.proofs.Common.{◌≡◌, not, drop}
use Rattle.std.specs.List.{list_any}
use Rattle.jl_sig.proofs.usable_flags.has_clear.Given as goal

abbrev pub invariant-loop-flag : goal.invariant-loop-flag
invariant-loop-flag l = list_any not l.flags ≡ list_any not (drop l.flag-index l.flags)
