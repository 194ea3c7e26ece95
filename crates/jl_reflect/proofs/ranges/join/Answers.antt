use Rattle.std.proofs.Common.{arith}
use Rattle.std.proofs.lemmas.Bool.{both_ways}
use Rattle.jl_reflect.proofs.Joined.{begun, joined, parted, ended}
use Rattle.jl_reflect.proofs.ranges.join.Goals as goal

pub loop-next-init : goal.loop-next-init
loop-next-init c = λ P es key valid proper h. begun P valid es key proper c.args.start c.args.later.now h c.new-spans.result.items c.new-spans.ensures.items

pub loop-next-preserved-then-is_same : goal.loop-next-preserved-then-is_same
loop-next-preserved-then-is_same c = λ P es key valid proper h.
    joined P valid es key proper c.args.start c.args.later.now h c.loop-next.spans.items c.loop-next.first c.loop-next.choice c.loop-next.next-index _ (c.loop-next.invariant P es key valid proper h) c.loop-next-test.true
    (c.is_same.ensures.0 c.if-is_same.true)

pub loop-next-preserved : goal.loop-next-preserved
loop-next-preserved c = λ P es key valid proper h.
    parted P valid es key proper c.args.start c.args.later.now h c.loop-next.spans.items c.loop-next.first c.loop-next.choice c.loop-next.next-index _ (c.loop-next.invariant P es key valid proper h) c.loop-next-test.true
    (λ e. both_ways c.is_same.result c.if-is_same.false (c.is_same.ensures.1 e)) c.saturating_sub.result c.saturating_sub.ensures c.push.new.self.items c.in_ok-push.ensures.items

pub returns : goal.returns
returns c = λ P es key valid proper h.
    ended P valid es key proper c.args.start c.args.later.now h c.loop-next.spans.items c.loop-next.first c.loop-next.choice c.loop-next.next-index (c.loop-next.invariant P es key valid proper h) (omega (arith, c.loop-next-test.false))
    c.push-2.new.self.items c.in_ok-push-2.ensures.items
