use Rattle.std.proofs.Common.{arith}
use Rattle.jl_methods.proofs.LastLemmas.{last_none, last_some}
use Rattle.jl_causes.proofs.lists.last_up_to.Goals as goal

pub returns-then-count-eq0 : goal.returns-then-count-eq0
returns-then-count-eq0 c = λ ordered.
    last_none c.args.numbers.now c.args.most c.count_up_to-count.result ordered (c.count_up_to-count.ensures.count ordered) (omega (arith, c.if-count-eq0.true))

pub returns : goal.returns
returns c = λ ordered.
    last_some c.args.numbers.now c.args.most c.count_up_to-count.result ordered (c.count_up_to-count.ensures.count ordered) (λ e. omega (arith, e, c.if-count-eq0.false))
