use Rattle.std.proofs.Common.{leb, rules}
use Rattle.std.proofs.lemmas.List.Sorted.{IsPartitionPoint-from_clause, IsPartitionedBy-leb}
use Rattle.jl_methods.proofs.CountLemmas.{in_order, counted}
use Rattle.jl_methods.proofs.count.count_up_to.Goals as goal

pub returns-clause-count : goal.returns-clause-count
returns-clause-count c = λ ordered.
    let parted = IsPartitionedBy-leb (λ n. n) _ c.args.world (in_order c.args.worlds.now ordered) in
    let point = IsPartitionPoint-from_clause (λ n. leb n c.args.world) _ _ c.partition_point.ensures.partitioned parted (λ a r q k. search rules) in
    counted c.args.worlds.now c.args.world c.partition_point.result c.partition_point.ensures.bound point
