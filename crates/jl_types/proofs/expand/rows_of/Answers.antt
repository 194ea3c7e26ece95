use Rattle.std.proofs.Common.{◌+◌, ◌∷◌, map, refl}
use Rattle.std.specs.List.{flat_map}
use Rattle.jl_types.proofs.ExpandLemmas.{flat_step}
use Rattle.jl_types.proofs.expand.rows_of.Goals as goal

pub loop-first-preserved : goal.loop-first-preserved
loop-first-preserved c =
    flat_step (λ t. map (λ us. t ∷ us) c.args.tails.now) c.args.firsts.now c.loop-first.first-index (c.loop-first.first-index + 1) c.first-item.result
    c.loop-first.rows.items c.push_rows.new.rows.items (flat_map (λ t. map (λ us. t ∷ us) c.args.tails.now) c.args.firsts.now) c.loop-first.invariant c.loop-first-test.true c.first-item.is c.in_ok-push_rows.ensures refl
