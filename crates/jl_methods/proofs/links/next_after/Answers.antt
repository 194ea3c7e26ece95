use Rattle.std.proofs.Common.{arith}
use Rattle.jl_methods.proofs.LastLemmas.{next_none, next_some}
use Rattle.jl_methods.proofs.links.next_after.Goals as goal

pub returns-then-count-worlds : goal.returns-then-count-worlds
returns-then-count-worlds c = λ ordered.
    next_none c.args.worlds.now c.args.world c.count_up_to-count.result ordered (c.count_up_to-count.ensures.count ordered) (omega (arith, c.if-count-worlds.true))

pub returns : goal.returns
returns c = λ ordered.
    next_some c.args.worlds.now c.args.world c.count_up_to-count.result ordered (c.count_up_to-count.ensures.count ordered) (omega (arith, c.if-count-worlds.false))
