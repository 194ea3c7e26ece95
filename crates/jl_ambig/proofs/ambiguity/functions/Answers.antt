use Rattle.std.proofs.Common.{◌∙◌, ap, arith}
use Rattle.jl_program.specs.declared.tree.Program.{Program}
use Rattle.jl_ambig.proofs.AskLemmas.{below_next, below_all}
use Rattle.jl_ambig.proofs.ambiguity.functions.Goals as goal

pub loop-site-preserved-then-next-above : goal.loop-site-preserved-then-next-above
loop-site-preserved-then-next-above c = record {
  few = c.loop-site.invariant.few;
  all = below_next c.args.ready.now.sites c.as_slice-site-items.result.now c.loop-site.site-index c.site-item.result c.loop-site.above c.loop-site.above
      (c.as_slice-site-items.ensures ∙ ap (λ (p : Program). p.sites) c.program.ensures) c.loop-site-test.true c.site-item.is (omega arith) (omega (arith, c.after-next.ensures.next, c.if-next-above.true)) c.loop-site.invariant.all;
}

pub loop-site-preserved : goal.loop-site-preserved
loop-site-preserved c = record {
  few = c.after-next.ensures.few;
  all = below_next c.args.ready.now.sites c.as_slice-site-items.result.now c.loop-site.site-index c.site-item.result c.loop-site.above c.after-next.result
      (c.as_slice-site-items.ensures ∙ ap (λ (p : Program). p.sites) c.program.ensures) c.loop-site-test.true c.site-item.is (omega (arith, c.if-next-above.false)) (omega (arith, c.after-next.ensures.next)) c.loop-site.invariant.all;
}

pub returns-clause-all : goal.returns-clause-all
returns-clause-all c =
    below_all c.args.ready.now.sites c.as_slice-site-items.result.now c.loop-site.site-index c.loop-site.above (c.as_slice-site-items.ensures ∙ ap (λ (p : Program). p.sites) c.program.ensures) (omega (arith, c.loop-site-test.false))
    c.loop-site.invariant.all
