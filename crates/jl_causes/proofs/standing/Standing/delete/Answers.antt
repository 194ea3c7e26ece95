use Rattle.std.proofs.Common.{sym, subst, refl, arith, slice_get}
use Rattle.jl_causes.specs.Stands.{AreAlike, AreFoundAt}
use Rattle.jl_causes.proofs.SiteLemmas.{alike_known, standing_deleted}
use Rattle.jl_causes.proofs.standing.Standing.delete.Goals as goal

pub take_each-requires-clause-known : goal.take_each-requires-clause-known
take_each-requires-clause-known c = λ m i.
    let P = c.args.ready.now in
    let place = c.args.place in
    let sites = c.in-Some.sites.now in
    let (cs, h, known) = c.requires in
    let are = h.alike place sites (subst (λ xs. AreFoundAt (slice_get xs place) sites) c.as_slice-alike.ensures.value c.in-Some.ensures) in
    omega (arith, alike_known P m place ((are.exact m).0 i), h.all_gone)

pub take_each-requires-in-None-clause-known : goal.take_each-requires-in-None-clause-known
take_each-requires-in-None-clause-known c = λ m i.
    let P = c.args.ready.now in
    let place = c.args.place in
    let (cs, h, known) = c.requires in
    let are = subst (AreAlike P place) (sym c.as_slice-sites.ensures.value) c.in_ok-those-in-None.ensures in
    omega (arith, alike_known P m place ((are.exact m).0 i), h.all_gone)

pub returns-in_ok-take_each-in-Some : goal.returns-in_ok-take_each-in-Some
returns-in_ok-take_each-in-Some c = λ cs h at.
    let place = c.args.place in
    let sites = c.in-Some.sites.now in
    let are = h.alike place sites (subst (λ xs. AreFoundAt (slice_get xs place) sites) c.as_slice-alike.ensures.value c.in-Some.ensures) in
    let each = c.in_ok-take_each-in-Some.ensures in
    standing_deleted c.args.ready.now cs c.args.self.now (record { alike = c.args.self.now.alike; made = c.args.self.now.made; gone = c.take_each.new.gone }) h c.args.world at refl place sites are refl each.many each.others each.taken

pub returns-in_ok-take_each-in-None : goal.returns-in_ok-take_each-in-None
returns-in_ok-take_each-in-None c = λ cs h at.
    let P = c.args.ready.now in
    let place = c.args.place in
    let are = subst (AreAlike P place) (sym c.as_slice-sites.ensures.value) c.in_ok-those-in-None.ensures in
    let each = c.in_ok-take_each-in-None.ensures in
    standing_deleted P cs c.args.self.now (record { alike = c.args.self.now.alike; made = c.args.self.now.made; gone = c.take_each-in-None.new.gone }) h c.args.world at refl place c.as_slice-sites.result.now are refl each.many each.others each.taken
