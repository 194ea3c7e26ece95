use Rattle.std.proofs.Common.{sym, subst}
use Rattle.std.specs.List.Sorted.{IsStrictlyIncreasing}
use Rattle.jl_calculus.specs.Definitions.{worlds, HasSite, AppliesTo}
use Rattle.jl_subsig.specs.Side.{Every}
use Rattle.jl_subsig.specs.Standing.{HaveLatest}
use Rattle.jl_choosing.proofs.PickLemmas.{picked_sites, picked_rise, picked_apply, picked_latest, rise_increase}
use Rattle.jl_choosing.proofs.choosing.choose_among.Goals as goal

pub choose_standing-requires-clause-sites : goal.choose_standing-requires-clause-sites
choose_standing-requires-clause-sites c =
    subst (Every (HasSite c.args.ready.now)) (sym c.as_slice.ensures.value)
    (picked_sites c.args.ready.now c.args.tested.now.types c.args.defs.now c.in_ok-those.those.items c.requires.sites c.in_ok-those.ensures.picked)

pub choose_standing-requires-clause-ordered : goal.choose_standing-requires-clause-ordered
choose_standing-requires-clause-ordered c =
    subst (λ ds. IsStrictlyIncreasing (worlds ds)) (sym c.as_slice.ensures.value)
    (rise_increase 0 c.in_ok-those.those.items (picked_rise c.args.ready.now c.args.tested.now.types 0 c.args.defs.now c.in_ok-those.those.items c.requires.ordered c.in_ok-those.ensures.picked))

pub returns-clause-choice : goal.returns-clause-choice
returns-clause-choice c = λ all h.
    let P = c.args.ready.now in
    let ts = c.args.tested.now.types in
    let those = c.in_ok-those.those.items in
    c.in_ok-choice.ensures ts (subst (Every (AppliesTo P ts)) (sym c.as_slice.ensures.value) (picked_apply P ts c.args.defs.now those c.in_ok-those.ensures.picked)) all
    (subst (HaveLatest P ts all) (sym c.as_slice.ensures.value) (picked_latest P ts all c.args.defs.now those h c.in_ok-those.ensures.picked))
