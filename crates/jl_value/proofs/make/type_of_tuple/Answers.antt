use Rattle.std.proofs.lemmas.List.{drop_all}
use Rattle.jl_value.proofs.MakeLemmas.{too_large, made_type, small_type}
use Rattle.jl_value.proofs.make.type_of_tuple.Goals as goal

pub returns-then-count-gt-MOST_TYPE_NODES-clause-fault : goal.returns-then-count-gt-MOST_TYPE_NODES-clause-fault
returns-then-count-gt-MOST_TYPE_NODES-clause-fault c =
    too_large c.args.parts.now c.loop-part.part-index c.loop-part.count c.nodes_within.result c.part-item.result c.type_of-ty.result.now c.loop-part.invariant.range c.loop-part.invariant.rest
    c.loop-part-test.true c.part-item.is c.type_of-ty.ensures c.nodes_within.ensures c.if-count-gt-MOST_TYPE_NODES.true

pub returns-clause-made : goal.returns-clause-made
returns-clause-made c =
    made_type c.args.parts.now c.loop-part.part-index c.loop-part.types.items c.in_ok-from_vec.field-0 c.loop-part.invariant.items (drop_all c.loop-part.part-index c.args.parts.now c.loop-part-test.false) c.in_ok-from_vec.ensures

pub returns-clause-small : goal.returns-clause-small
returns-clause-small c =
    small_type c.args.parts.now c.loop-part.part-index c.loop-part.count c.loop-part.types.items c.in_ok-from_vec.field-0 c.loop-part.invariant.items
    (drop_all c.loop-part.part-index c.args.parts.now c.loop-part-test.false) c.in_ok-from_vec.ensures c.loop-part.invariant.range c.loop-part.invariant.rest
