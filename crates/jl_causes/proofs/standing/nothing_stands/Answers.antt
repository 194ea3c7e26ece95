use Rattle.std.proofs.Common.{◌≡◌, ◌∙◌, ap, length}
use Rattle.jl_program.specs.declared.tree.Program.{Program}
use Rattle.jl_causes.proofs.SiteLemmas.{nothing_kept}
use Rattle.jl_causes.proofs.standing.nothing_stands.Goals as goal

pub returns : goal.returns
returns c =
    let P = c.args.ready.now in
    let sites : c.len-sites.result ≡ length P.sites = c.len-sites.ensures ∙ ap (λ (p : Program). length p.sites) c.program-2.ensures in
    let places : c.len-places.result ≡ length P.deletes = c.len-places.ensures ∙ ap (λ (p : Program). length p.deletes) c.program.ensures in
    nothing_kept P (record { alike = c.in_ok-alike.alike; made = c.in_ok-made.made; gone = c.in_ok-gone.gone }) (c.in_ok-alike.ensures.many ∙ places) c.in_ok-alike.ensures.none (c.in_ok-made.ensures.count ∙ sites) (c.in_ok-gone.ensures.count ∙ sites)
    c.in_ok-made.ensures.empty c.in_ok-gone.ensures.empty
