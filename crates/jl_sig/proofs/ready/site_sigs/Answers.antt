use Rattle.jl_program.specs.declared.tree.Site.{Site}
use Rattle.jl_sig.proofs.ReadyLemmas.{sigs_step}
use Rattle.jl_sig.proofs.ready.site_sigs.Goals as goal

pub loop-site-preserved : goal.loop-site-preserved
loop-site-preserved c =
    sigs_step (λ (site : Site). site.sig) c.args.table.now c.args.sites.now c.loop-site.site-index c.site-item.result c.in_ok-sig.sig c.loop-site.sigs.items c.push.new.self.items c.loop-site-test.true
    c.site-item.is c.in_ok-sig.ensures.written c.in_ok-sig.ensures.kept c.in_ok-push.ensures.items c.loop-site.invariant
