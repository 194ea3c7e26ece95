use Rattle.jl_model.specs.Counts.{nodes}
use Rattle.jl_types.proofs.GroundLemmas.{members_case, union_singles, singles_lower, ground_lower}
use Rattle.jl_types.proofs.ground.ground_sub.Goals as goal

pub are_below-requires-clause-lowers_ground : goal.are_below-requires-clause-lowers_ground
are_below-requires-clause-lowers_ground c =
    singles_lower c.args.table.now c.valid.ensures (nodes c.args.b.now) c.as_slice.result.now
    (union_singles c.args.table.now c.args.a.now c.in-Union.members c.as_slice.result.now c.in-Union.is c.as_slice.ensures c.requires.a_ground)

pub is_above-requires-clause-lower_ground : goal.is_above-requires-clause-lower_ground
is_above-requires-clause-lower_ground c = ground_lower c.args.table.now c.valid.ensures (nodes c.args.b.now) c.args.a.now c.requires.a_ground c.in_default.not-Union

pub returns-in-Union : goal.returns-in-Union
returns-in-Union c = members_case c.args.table.now c.args.a.now c.args.b.now c.in-Union.members c.as_slice.result.now c.are_below.result c.in-Union.is c.as_slice.ensures c.are_below.ensures
