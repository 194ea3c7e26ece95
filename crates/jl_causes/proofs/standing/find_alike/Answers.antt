use Rattle.std.proofs.Common.{◌∙◌, ◌<◌, ap, arith, sym, subst, length}
use Rattle.std.specs.Global.{Vec}
use Rattle.std.proofs.lemmas.Bool.{both_ways}
use Rattle.jl_program.specs.declared.tree.Program.{Program}
use Rattle.jl_methods.specs.Links.{AreNumbers}
use Rattle.jl_methods.proofs.LinkLemmas.{walk_none, walk_more, walk_same, walk_whole}
use Rattle.jl_causes.specs.Stands.{IsAlike}
use Rattle.jl_causes.proofs.SiteLemmas.{alike_known}
use Rattle.jl_causes.proofs.standing.find_alike.Goals as goal
use Rattle.jl_causes.proofs.standing.find_alike.Goals.{then-branch+in_ok-push, else-branch}

pub is_alike-requires-clause-site : goal.is_alike-requires-clause-site
is_alike-requires-clause-site c = omega (arith, c.loop-site-test.true, c.in_ok-count.ensures, c.len.ensures, ap (λ (p : Program). length p.sites) c.program.ensures)

pub loop-site-init : goal.loop-site-init
loop-site-init c =
    let P = c.args.ready.now in
    subst (AreNumbers (λ m. (m < 0) × IsAlike P m c.args.place)) (sym c.new-those.ensures.items) (walk_none (λ m. IsAlike P m c.args.place))

pub loop-site-preserved : goal.loop-site-preserved
loop-site-preserved c =
    let P = c.args.ready.now in
    let n = c.loop-site.site in
    elim c.if-branch.branch [
      | then-branch+in_ok-push b ↦
          walk_more (λ m. IsAlike P m c.args.place) n c.loop-site.those.items c.loop-site.invariant (c.in_ok-is_alike.ensures.0 b.if-branch.true) c.if-branch.those.items
          (ap (λ (v : Vec _). v.items) b.those-is ∙ b.in_ok-push.ensures.items)
      | else-branch b ↦
          walk_same (λ m. IsAlike P m c.args.place) n c.loop-site.those.items c.loop-site.invariant
          (λ a. both_ways c.in_ok-is_alike.field-0 b.if-branch.false (c.in_ok-is_alike.ensures.1 a)) c.if-branch.those.items (ap (λ (v : Vec _). v.items) b.those-is)
    ]

pub returns : goal.returns
returns c =
    let P = c.args.ready.now in
    walk_whole (λ m. IsAlike P m c.args.place) c.loop-site.site c.loop-site.those.items c.loop-site.invariant (length P.sites)
    (omega (arith, c.loop-site-test.false, c.in_ok-count.ensures, c.len.ensures, ap (λ (p : Program). length p.sites) c.program.ensures))
    (λ m a. alike_known P m c.args.place a)
