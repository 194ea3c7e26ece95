use Rattle.std.proofs.Common.{sym, subst, ◌<◌, length}
use Rattle.jl_program.specs.declared.tree.Program.{Program}
use Rattle.jl_program.specs.declared.tree.Site.{Site}
use Rattle.jl_program.specs.Scope.{all_types}
use Rattle.jl_sig.specs.Prepared.{IsSigOf}
use Rattle.jl_sig.proofs.ReadyLemmas.{kept_at}
use Rattle.jl_sig.proofs.ready.Ready.sig.Goals as goal

pub returns-clause-kept : goal.returns-clause-kept
returns-clause-kept c =
    let P = c.self.inside.program in
    subst (λ (z : Program). IsSigOf (all_types z) c.index.result.now) c.self.view_is
    (kept_at (λ (site : Site). site.sig) (all_types P) P.sites c.self.inside.sites.items c.args.site c.index.result.now c.self.invariant.sites_kept
    (subst (λ (z : Program). c.args.site < length z.sites) (sym c.self.view_is) c.requires) c.index.ensures)
