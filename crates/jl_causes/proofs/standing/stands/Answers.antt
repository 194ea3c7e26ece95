use Rattle.std.proofs.Common.{arith}
use Rattle.jl_causes.proofs.standing.stands.Goals as goal

pub returns : goal.returns
returns c = λ made_rises gone_rises. (
  c.last-2.result,
  c.last.result,
  record { made_last = c.last-2.ensures made_rises; gone_last = c.last.ensures gone_rises },
  ((λ here. grind (arith, here)), (λ later. grind (arith, later))),
)
