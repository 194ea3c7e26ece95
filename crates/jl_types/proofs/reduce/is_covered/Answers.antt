use Rattle.jl_model.specs.Ancestors.{table_of}
use Rattle.jl_types.proofs.GroundLemmas.{some-at}
use Rattle.jl_types.proofs.ReduceLemmas.{candidate-at, candidate_ground, candidate_lower}
use Rattle.jl_types.proofs.reduce.is_covered.Goals as goal

pub is_above-requires-clause-upper_ground : goal.is_above-requires-clause-upper_ground
is_above-requires-clause-upper_ground c =
    candidate_ground c.args.table.now c.member-item.result (candidate-at c.args.table.now c.args.members.now c.loop-member.member-index c.member-item.result c.requires.members_candidates c.loop-member-test.true c.member-item.is)
    (c.is_small.ensures.0 c.if-is_small.true)

pub is_above-requires-clause-lower_ground : goal.is_above-requires-clause-lower_ground
is_above-requires-clause-lower_ground c = candidate_lower c.args.table.now c.args.candidate.now c.member-item.result c.requires.candidate (c.is_small.ensures.0 c.if-is_small.true)

pub returns-then-is_above-clause-covered : goal.returns-then-is_above-clause-covered
returns-then-is_above-clause-covered c =
    λ h. some-at (table_of c.args.table.now) c.args.candidate.now c.args.members.now c.loop-member.member-index c.member-item.result (c.is_above.ensures.0 c.if-is_above.true) c.loop-member-test.true c.member-item.is
