use Rattle.std.proofs.Common.{sym, subst}
use Rattle.std.specs.List.Sorted.{IsStrictlyIncreasing}
use Rattle.jl_program.specs.Chooses.{Chooses}
use Rattle.jl_program.specs.Scope.{types_of}
use Rattle.jl_calculus.specs.Definitions.{methods_of, worlds, HasSite, AppliesTo}
use Rattle.jl_subsig.specs.Side.{Every}
use Rattle.jl_subsig.proofs.LatestLemmas.{rises_of, latest_every}
use Rattle.jl_subsig.proofs.StandingLemmas.{left_increase, left_has, chooses_left}
use Rattle.jl_subsig.proofs.standing.choose_standing.Goals as goal

pub find_left-requires-clause-sites : goal.find_left-requires-clause-sites
find_left-requires-clause-sites c = latest_every c.args.ready.now (HasSite c.args.ready.now) c.args.defs.now c.in_ok-latest.latest.items c.requires.sites c.in_ok-latest.ensures

pub choose-requires-clause-sites : goal.choose-requires-clause-sites
choose-requires-clause-sites c =
    let P = c.args.ready.now in
    subst (Every (HasSite P)) (sym c.as_slice.ensures.value)
    (left_has P c.args.dels.now (HasSite P) c.args.defs.now c.in_ok-latest.latest.items c.in_ok-those.those.items c.requires.sites c.in_ok-latest.ensures c.in_ok-those.ensures)

pub choose-requires-clause-ordered : goal.choose-requires-clause-ordered
choose-requires-clause-ordered c =
    subst (λ ds. IsStrictlyIncreasing (worlds ds)) (sym c.as_slice.ensures.value)
    (left_increase c.args.ready.now c.args.dels.now c.args.defs.now c.in_ok-latest.latest.items c.in_ok-those.those.items c.requires.ordered c.in_ok-latest.ensures c.in_ok-those.ensures)

pub returns : goal.returns
returns c =
    let P = c.args.ready.now in
    let dels = c.args.dels.now in
    let defs = c.args.defs.now in
    let latest = c.in_ok-latest.latest.items in
    let those = c.in_ok-those.those.items in
    let choice = c.in_ok-choice.choice in
    λ ts apply all have.
    chooses_left P dels ts all defs latest those c.requires.sites (rises_of (worlds defs) c.requires.ordered) have c.in_ok-latest.ensures c.in_ok-those.ensures c.valid.ensures apply choice
    (subst (λ ds. Chooses (types_of P) (methods_of P ds) ts choice) c.as_slice.ensures.value
    (c.in_ok-choice.ensures ts
    (subst (Every (AppliesTo P ts)) (sym c.as_slice.ensures.value) (left_has P dels (AppliesTo P ts) defs latest those apply c.in_ok-latest.ensures c.in_ok-those.ensures))))
