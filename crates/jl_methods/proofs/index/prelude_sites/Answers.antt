use Rattle.std.proofs.Common.{◌≡◌, ◌∙◌, ◌+◌, ◌<◌, arith, ap, subst, length}
use Rattle.jl_program.specs.declared.tree.Program.{Program}
use Rattle.jl_methods.specs.Links.{linked_in, with_world, AreEmptyLinks}
use Rattle.jl_methods.proofs.FunctionLemmas.{many_sites}
use Rattle.jl_methods.proofs.PreludeLemmas.{links_start, links_step, links_end}
use Rattle.jl_methods.proofs.index.prelude_sites.Goals as goal

pub loop-site-init : goal.loop-site-init
loop-site-init c =
    let P = c.args.ready.now in
    let many : c.len.result ≡ length P.sites = omega (arith, c.len.ensures, ap (λ (p : Program). length p.sites) c.program.ensures) in
    links_start P (linked_in c.in_ok-sites.sites) (subst (λ n. AreEmptyLinks n (linked_in c.in_ok-sites.sites)) many c.in_ok-sites.ensures)

pub reserve_world-requires : goal.reserve_world-requires
reserve_world-requires c =
    let P = c.args.ready.now in
    omega (arith, many_sites P c.valid.ensures, c.loop-site-test.true, c.loop-site.invariant.all_worlds)

pub loop-site-preserved : goal.loop-site-preserved
loop-site-preserved c =
    let P = c.args.ready.now in
    let site = c.loop-site.site in
    let known : site < length P.sites = omega (arith, many_sites P c.valid.ensures, c.loop-site-test.true) in
    links_step P site (linked_in c.loop-site.sites) (linked_in c.put_world.new.self) c.loop-site-test.true known (c.put_world.ensures ∙ ap (with_world site (site + 1)) c.reserve_world.ensures.kept) c.loop-site.invariant

pub returns : goal.returns
returns c = links_end c.args.ready.now c.loop-site.site (linked_in c.loop-site.sites) (omega (arith, c.loop-site-test.false)) c.loop-site.invariant
