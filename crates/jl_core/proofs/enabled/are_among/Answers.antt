use Rattle.jl_core.proofs.AskLemmas.{among_more, all_among}
use Rattle.jl_core.proofs.EnabledLemmas.{yes_where}
use Rattle.jl_core.proofs.enabled.are_among.Goals as goal

pub loop-number-preserved : goal.loop-number-preserved
loop-number-preserved c =
    among_more c.args.numbers.now c.args.sought.now c.loop-number.number-index _ c.loop-number-test.true (c.is_among.ensures.0 c.if-not-is_among.false) c.loop-number.invariant

pub returns : goal.returns
returns c = yes_where (all_among c.args.numbers.now c.args.sought.now c.loop-number.number-index c.loop-number-test.false c.loop-number.invariant)
