use Rattle.std.proofs.Common.{rules, ◌≡◌, ◌∙◌, arith, map, sym, subst, leb, leb-true, leb-false}
use Rattle.std.proofs.lemmas.List.Sorted.{IsPartitionPoint-from_clause, IsPartitionedBy-leb}
use Rattle.jl_calculus.specs.declared.history.Del.{Del}
use Rattle.jl_calculus.specs.Definitions.{dels_from}
use Rattle.jl_calculus.specs.World.{changes}
use Rattle.jl_methods.specs.Numbered.{RisesFrom}
use Rattle.jl_methods.proofs.ChangeLemmas.{dels_rise, dels_up}
use Rattle.jl_methods.proofs.CountLemmas.{rise_in_order}
use Rattle.jl_methods.proofs.index.Index.dels_up_to.Goals as goal

pub returns : goal.returns
returns c = λ P es h.
    let f = c.args.function in
    let w = c.args.world in
    let ds = c.get-dels.result.now in
    let e : ds ≡ dels_from P f 1 (changes es) = c.get-dels.ensures ∙ h.each_dels f in
    let rises : RisesFrom 0 (map (λ (d : Del). d.world) ds) = subst (λ ds. RisesFrom 0 (map (λ (d : Del). d.world) ds)) (sym e) (dels_rise P f 0 1 (changes es) (omega arith)) in
    let parted = IsPartitionedBy-leb (λ (d : Del). d.world) ds w (rise_in_order (λ (d : Del). d.world) ds rises) in
    let point = IsPartitionPoint-from_clause (λ (d : Del). leb d.world w) ds c.partition_point.result c.partition_point.ensures.partitioned parted (λ a r q k. search rules) in
    dels_up P f w (changes es) c.partition_point.result ds e
    (λ j d l m. leb-true _ _ (point.0 j d (omega arith) l))
    (λ j d l m. (let no = leb-false _ _ (point.1 j d l m) in omega (arith, no)))
