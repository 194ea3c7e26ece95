use Rattle.std.proofs.Common.{refl, arith, get_or}
use Rattle.std.proofs.lemmas.List.Elements.{Contains-get_or}
use Rattle.jl_causes.proofs.JudgeLemmas.{not_so}
use Rattle.jl_causes.proofs.KeptLemmas.{no_of}
use Rattle.jl_causes.proofs.SiteLemmas.{says, none_next, none_there_at_all}
use Rattle.jl_causes.proofs.standing.Standing.has_one.Goals as goal

pub loop-site-init : goal.loop-site-init
loop-site-init c = λ P cs h l j less. absurd (omega (arith, less))

pub returns-then-stands : goal.returns-then-stands
returns-then-stands c = λ P cs place h are l.
    let sites = c.args.sites.now in
    let i = c.loop-site.site-index in
    let site = get_or sites i 0 in
    let k = h.each site in
    let there = says P cs site c.args.world _ _ c.stands.result k l (c.stands.ensures k.made_rises k.gone_rises) in (
      λ here. (site, (are.exact site).0 (Contains-get_or sites i 0 c.loop-site-test.true), there.0 c.if-stands.true),
      λ found. refl,
    )

pub loop-site-preserved : goal.loop-site-preserved
loop-site-preserved c = λ P cs h l.
    let sites = c.args.sites.now in
    let i = c.loop-site.site-index in
    let k = h.each (get_or sites i 0) in
    let there = says P cs (get_or sites i 0) c.args.world _ _ c.stands.result k l (c.stands.ensures k.made_rises k.gone_rises) in
    none_next P cs sites i c.args.world (λ t. not_so c.stands.result there c.if-stands.false t) (c.loop-site.invariant P cs h l)

pub returns : goal.returns
returns c = λ P cs place h are l.
    no_of (none_there_at_all P cs c.args.sites.now place c.args.world are (λ j less. c.loop-site.invariant P cs h l j (omega (arith, less, c.loop-site-test.false))))
