use Rattle.jl_model.specs.Counts.{nodes}
use Rattle.jl_types.proofs.ReduceLemmas.{not_small}
use Rattle.jl_types.proofs.FormLemmas.{large_at}
use Rattle.jl_types.proofs.form.are_small.Goals as goal

pub returns-then-not-is_small-clause-large : goal.returns-then-not-is_small-clause-large
returns-then-not-is_small-clause-large c =
    λ h. large_at c.args.types.now c.loop-ty.ty-index c.ty-item.result c.loop-ty-test.true c.ty-item.is (not_small (nodes c.ty-item.result) c.is_small.result c.is_small.ensures c.if-not-is_small.true)
