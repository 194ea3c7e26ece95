use Rattle.std.proofs.Common.{◌∙◌, refl, sym, subst, arith, [], get_or}
use Rattle.std.specs.List.{Contains}
use Rattle.std.proofs.lemmas.List.{take_all}
use Rattle.std.proofs.lemmas.List.Elements.{Contains-get_or}
use Rattle.jl_methods.proofs.FilterLemmas.{none_there}
use Rattle.jl_causes.specs.Stands.{lists_in}
use Rattle.jl_causes.proofs.SiteLemmas.{others_more, taken_more}
use Rattle.jl_causes.proofs.standing.take_each.Goals as goal

pub loop-site-init : goal.loop-site-init
loop-site-init c = record {
  many = refl;
  others = λ m none. refl;
  taken = λ m i. absurd (none_there m [] refl i);
}

pub take_away-requires : goal.take_away-requires
take_away-requires c =
    let sites = c.args.sites.now in
    let i = c.loop-site.site-index in
    let l = c.requires.known (get_or sites i 0) (Contains-get_or sites i 0 c.loop-site-test.true) in
    omega (arith, l, c.loop-site.invariant.many)

pub loop-site-preserved : goal.loop-site-preserved
loop-site-preserved c =
    let made = lists_in c.args.made.now in
    let first = lists_in c.args.gone.now in
    let old = lists_in c.loop-site.gone in
    let new = lists_in c.take_away.new.gone in
    let sites = c.args.sites.now in
    let i = c.loop-site.site-index in
    let h = c.loop-site.invariant in
    let one = c.in_ok-take_away.ensures in
    record {
      many = one.many ∙ h.many;
      others = others_more c.args.world made first old new sites i c.loop-site-test.true c.requires.rises one.others one.taken h.others;
      taken = taken_more c.args.world made first old new sites i c.loop-site-test.true c.requires.rises one.others one.taken h.others h.taken;
    }

pub returns-clause-many : goal.returns-clause-many
returns-clause-many c = c.loop-site.invariant.many

pub returns-clause-others : goal.returns-clause-others
returns-clause-others c = λ m none.
    let sites = c.args.sites.now in
    c.loop-site.invariant.others m (λ i. none (subst (λ ns. Contains ns m) (take_all c.loop-site.site-index sites (omega (arith, c.loop-site-test.false))) i))

pub returns-clause-taken : goal.returns-clause-taken
returns-clause-taken c = λ m i.
    let sites = c.args.sites.now in
    c.loop-site.invariant.taken m (subst (λ ns. Contains ns m) (sym (take_all c.loop-site.site-index sites (omega (arith, c.loop-site-test.false)))) i)
