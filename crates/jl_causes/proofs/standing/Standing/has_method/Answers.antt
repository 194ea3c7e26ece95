use Rattle.std.proofs.Common.{sym, subst, slice_get}
use Rattle.jl_causes.specs.Stands.{AreAlike, AreFoundAt}
use Rattle.jl_causes.proofs.standing.Standing.has_method.Goals as goal

pub returns-in-Some : goal.returns-in-Some
returns-in-Some c = λ cs h l.
    let place = c.args.place in
    let sites = c.in-Some.sites.now in
    c.has_one.ensures c.args.ready.now cs place h (h.alike place sites (subst (λ xs. AreFoundAt (slice_get xs place) sites) c.as_slice-alike.ensures.value c.in-Some.ensures)) l

pub returns-in_ok-those-in-None : goal.returns-in_ok-those-in-None
returns-in_ok-those-in-None c = λ cs h l.
    c.has_one-in-None.ensures c.args.ready.now cs c.args.place h (subst (AreAlike c.args.ready.now c.args.place) (sym c.as_slice-sites.ensures.value) c.in_ok-those-in-None.ensures) l
