use Rattle.std.proofs.Common.{◌≡◌, true, arith}
use Rattle.jl_model.specs.Ancestors.{table_of}
use Rattle.jl_model.specs.Counts.{nodes}
use Rattle.jl_types.proofs.GroundLemmas.{lower-at, each-at}
use Rattle.jl_types.proofs.ground.are_below.Goals as goal

pub is_above-requires-clause-lower_ground : goal.is_above-requires-clause-lower_ground
is_above-requires-clause-lower_ground c = lower-at c.args.table.now (nodes c.args.upper.now) (nodes c.args.upper.now) c.args.lowers.now c.loop-lower.lower-index c.lower-item.result (omega arith) c.requires.lowers_ground c.loop-lower-test.true c.lower-item.is

pub returns-then-not-is_above : goal.returns-then-not-is_above
returns-then-not-is_above c = (
  (λ h. cc),
  (λ b.
      let e = each-at (table_of c.args.table.now) c.args.lowers.now c.args.upper.now c.loop-lower.lower-index c.lower-item.result b c.loop-lower-test.true c.lower-item.is in
      let r : c.is_above.result ≡ true = c.is_above.ensures.1 e in cc),
)
