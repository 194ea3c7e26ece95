use Rattle.std.proofs.Common.{arith}
use Rattle.std.proofs.lemmas.List.{take_more_same}
use Rattle.jl_ambig.proofs.AskLemmas.{same_all}
use Rattle.jl_ambig.proofs.asking.are_same.Goals as goal

pub loop-i-preserved : goal.loop-i-preserved
loop-i-preserved c =
    take_more_same c.args.a.now c.args.b.now c.loop-i.i (record { world = 0; site = 0 }) c.loop-i-test.true (omega (arith, c.loop-i-test.true, c.if-a-b.false)) c.loop-i.invariant (c.is_same.ensures c.if-not-is_same.false)

pub returns : goal.returns
returns c = λ t. same_all c.args.a.now c.args.b.now c.loop-i.i (omega (arith, c.loop-i-test.false)) c.if-a-b.false c.loop-i.invariant
