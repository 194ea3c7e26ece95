use Rattle.std.proofs.Common.{◌≡◌, drop}
use Rattle.std.specs.List.{list_any}
use Rattle.jl_sig.specs.Built.{has_root}
use Rattle.jl_sig.proofs.rows.+roots.Given as goal

abbrev pub invariant-some_has_root-loop-ty : goal.invariant-some_has_root-loop-ty
invariant-some_has_root-loop-ty l = list_any (has_root l.width l.variable) l.types ≡ list_any (has_root l.width l.variable) (drop l.ty-index l.types)
