use Rattle.jl_subsig.proofs.OrderSteps.{sides, order_told, tells_order}
use Rattle.jl_subsig.proofs.order.sig_sub.Goals as goal

pub are_below_some-requires-clause-left : goal.are_below_some-requires-clause-left
are_below_some-requires-clause-left c = sides c.args.table.now c.valid.ensures c.args.left.now c.requires.left

pub are_below_some-requires-clause-right : goal.are_below_some-requires-clause-right
are_below_some-requires-clause-right c = sides c.args.table.now c.valid.ensures c.args.right.now c.requires.right

pub returns : goal.returns
returns c = (
  (λ h. order_told c.args.table.now c.valid.ensures c.args.left.now c.requires.left c.args.right.now c.requires.right (c.in_ok-is_below.ensures.0 h)),
  (λ x. c.in_ok-is_below.ensures.1 (tells_order c.args.table.now c.valid.ensures c.args.left.now c.requires.left c.args.right.now c.requires.right x)),
)
