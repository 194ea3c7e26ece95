use Rattle.std.proofs.Common.{◌≡◌, drop}
use Rattle.std.specs.List.{list_all}
use Rattle.jl_resolve_forms.proofs.known_decls.are_all.Given as goal

abbrev pub invariant-loop-flag : goal.invariant-loop-flag
invariant-loop-flag l = list_all (λ b. b) l.flags ≡ list_all (λ b. b) (drop l.flag-index l.flags)
