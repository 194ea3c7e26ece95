use Rattle.std.proofs.Common.{◌≡◌, ◌++◌, ◌+◌, ◌*◌, drop}
use Rattle.jl_model.specs.Counts.{nodes}
use Rattle.jl_model.proofs.CountLemmas.{nodes_all}
use Rattle.std.specs.List.{flat_map}
use Rattle.jl_model.specs.Rows.{alts}
use Rattle.jl_types.proofs.expand.+expand.Given as goal

abbrev pub invariant-expand_all-loop-member : goal.invariant-expand_all-loop-member
invariant-expand_all-loop-member l = (l.all.items ++ flat_map alts (drop l.member-index l.members)) ≡ flat_map alts l.members

abbrev pub decreases-expand : goal.decreases-expand
decreases-expand l = 2 * nodes l.ty.now

abbrev pub decreases-expand_all : goal.decreases-expand_all
decreases-expand_all l = 2 * nodes_all l.members.now + 1

abbrev pub decreases-rows_over : goal.decreases-rows_over
decreases-rows_over l = 2 * nodes_all l.parts.now + 1
