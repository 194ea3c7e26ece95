use Rattle.std.proofs.Common.{rules, ◌≡◌, ◌∙◌, ◌≤◌, refl, arith, take, length, map, sym, subst, leb, leb-true, leb-false}
use Rattle.std.proofs.lemmas.List.Sorted.{IsPartitionPoint-from_clause, IsPartitionedBy-leb}
use Rattle.jl_calculus.specs.declared.history.Del.{Del}
use Rattle.jl_calculus.specs.Definitions.{dels_from}
use Rattle.jl_methods.specs.Numbered.{RisesFrom}
use Rattle.jl_methods.specs.Latest.{AreLatestOfPlaces}
use Rattle.jl_methods.proofs.ChangeLemmas.{dels_rise}
use Rattle.jl_methods.proofs.CountLemmas.{rise_in_order}
use Rattle.jl_choosing.proofs.LeftLemmas.{some_dels, all_dels}
use Rattle.jl_choosing.proofs.changes.Deletions.in_world.Goals as goal

pub returns-then-count-all : goal.returns-then-count-all
returns-then-count-all c = λ P f cs h.
    let w = c.args.world in
    let ds = c.as_slice-all.result.now in
    let e : ds ≡ dels_from P f 1 cs = c.as_slice-all.ensures.value ∙ c.self.view_is ∙ h in
    let rises : RisesFrom 0 (map (λ (d : Del). d.world) ds) = subst (λ ds. RisesFrom 0 (map (λ (d : Del). d.world) ds)) (sym e) (dels_rise P f 0 1 cs (omega arith)) in
    let parted = IsPartitionedBy-leb (λ (d : Del). d.world) ds w (rise_in_order (λ (d : Del). d.world) ds rises) in
    let point = IsPartitionPoint-from_clause (λ (d : Del). leb d.world w) ds c.partition_point-count.result c.partition_point-count.ensures.partitioned parted (λ a r q k. search rules) in
    some_dels P f w cs ds e c.partition_point-count.result
    (λ j d l m. leb-true _ _ (point.0 j d (omega arith) l))
    (λ j d l m. (let no = leb-false _ _ (point.1 j d l m) in omega (arith, no)))
    (take c.partition_point-count.result ds) refl

pub returns : goal.returns
returns c = λ P f cs h.
    let w = c.args.world in
    let ds = c.as_slice-all.result.now in
    let e : ds ≡ dels_from P f 1 cs = c.as_slice-all.ensures.value ∙ c.self.view_is ∙ h in
    let rises : RisesFrom 0 (map (λ (d : Del). d.world) ds) = subst (λ ds. RisesFrom 0 (map (λ (d : Del). d.world) ds)) (sym e) (dels_rise P f 0 1 cs (omega arith)) in
    let parted = IsPartitionedBy-leb (λ (d : Del). d.world) ds w (rise_in_order (λ (d : Del). d.world) ds rises) in
    let point = IsPartitionPoint-from_clause (λ (d : Del). leb d.world w) ds c.partition_point-count.result c.partition_point-count.ensures.partitioned parted (λ a r q k. search rules) in
    let all_there : length ds ≤ c.partition_point-count.result = omega (arith, c.if-count-all.false, c.as_slice-all.ensures.len) in
    all_dels P f w cs ds e c.partition_point-count.result
    (λ j d l m. leb-true _ _ (point.0 j d (omega arith) l))
    (λ j d l m. (let no = leb-false _ _ (point.1 j d l m) in omega (arith, no)))
    c.as_slice.result.now all_there (subst (λ all. AreLatestOfPlaces all c.as_slice.result.now) (sym c.as_slice-all.ensures.value) (subst (λ some. AreLatestOfPlaces c.self.inside.all.items some) (sym c.as_slice.ensures.value) c.self.invariant))
