use Rattle.std.proofs.Common.{◌<◌, sym, subst, arith, length}
use Rattle.jl_choosing.proofs.FunctionLemmas.{prelude_there, prelude_step, prelude_end}
use Rattle.jl_choosing.proofs.changes.prelude_changes.Goals as goal

pub push-requires-clause-change : goal.push-requires-clause-change
push-requires-clause-change c =
    let there = prelude_there c.args.ready.now c.valid.ensures in
    subst (λ v. c.loop-site.site < length v.0.sites) (sym c.loop-site.invariant) (omega (arith, there, c.loop-site-test.true))

pub loop-site-preserved : goal.loop-site-preserved
loop-site-preserved c = prelude_step c.args.ready.now c.push.new.self c.loop-site.changes c.loop-site.site c.loop-site-test.true c.loop-site.invariant c.in_ok-push.ensures.added

pub returns : goal.returns
returns c = prelude_end c.args.ready.now c.loop-site.changes c.loop-site.site (omega (arith, c.loop-site-test.false)) c.loop-site.invariant
