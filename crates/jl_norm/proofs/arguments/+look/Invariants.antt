use Rattle.std.proofs.Common.{◌+◌, ◌*◌, ◌||◌, Bool, drop}
use Rattle.std.specs.List.{flat_map}
use Rattle.jl_model.specs.Refusals.{given_in}
use Rattle.jl_norm.specs.Judged.{Judged}
use Rattle.jl_model.specs.Counts.{nodes}
use Rattle.jl_model.proofs.CountLemmas.{nodes_all}
use Rattle.jl_norm.proofs.arguments.+look.Given as goal

abbrev pub decreases-is_outside_in : goal.decreases-is_outside_in
decreases-is_outside_in l = 2 * nodes l.ty.now

abbrev pub decreases-is_any_outside : goal.decreases-is_any_outside
decreases-is_any_outside l = 2 * nodes_all l.types.now + 1

abbrev pub invariant-is_any_outside-loop-ty : goal.invariant-is_any_outside-loop-ty
invariant-is_any_outside-loop-ty l = (c : Bool) → Judged l.table l.decl (flat_map given_in (drop l.ty-index l.types)) c → Judged l.table l.decl (flat_map given_in l.types) (l.is_outside || c)
