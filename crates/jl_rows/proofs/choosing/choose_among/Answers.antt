use Rattle.std.proofs.Common.{sym, subst}
use Rattle.std.specs.List.Sorted.{IsStrictlyIncreasing}
use Rattle.jl_calculus.specs.Definitions.{worlds, HasSite, AppliesTo, defs_in}
use Rattle.jl_subsig.specs.Side.{Every}
use Rattle.jl_subsig.specs.Standing.{HasPlace, HaveLatest, ChoosesLeft}
use Rattle.jl_rows.proofs.AmongLemmas.{among_sites, among_apply, among_have, among_places, among_selects}
use Rattle.jl_rows.proofs.choosing.choose_among.Goals as goal

pub defs_among-requires : goal.defs_among-requires
defs_among-requires c = (c.args.ready.now, c.requires.index)

pub choose_standing-requires-clause-sites : goal.choose_standing-requires-clause-sites
choose_standing-requires-clause-sites c =
    let P = c.args.ready.now in
    let (es, h) = c.requires.index in
    let (k, proper, s, p) = c.requires.applying in
    subst (Every (HasSite P)) (sym c.as_slice.ensures.value) (among_sites P es k c.args.world c.in_ok-defs.defs.items (c.in_ok-defs.ensures.latest P es k h s))

pub choose_standing-requires-clause-places : goal.choose_standing-requires-clause-places
choose_standing-requires-clause-places c =
    let P = c.args.ready.now in
    let (es, h) = c.requires.index in
    let (k, proper, s, p) = c.requires.applying in
    subst (Every (HasPlace P)) (sym c.as_slice-2.ensures.value) (among_places P es k c.args.world c.in_ok-dels.dels.items (c.in_ok-dels.ensures P es k h p))

pub choose_standing-requires-clause-ordered : goal.choose_standing-requires-clause-ordered
choose_standing-requires-clause-ordered c = subst (λ ds. IsStrictlyIncreasing (worlds ds)) (sym c.as_slice.ensures.value) c.in_ok-defs.ensures.ordered

pub returns : goal.returns
returns c =
    let P = c.args.ready.now in
    let w = c.args.world in
    let some = c.in_ok-defs.defs.items in
    let gone = c.in_ok-dels.dels.items in
    let choice = c.in_ok-choice.choice in
    λ es k h proper s p.
    let defs = c.in_ok-defs.ensures.latest P es k h s in
    among_selects P es k w gone (c.in_ok-dels.ensures P es k h p) c.valid.ensures proper choice
    (subst (λ dels. ChoosesLeft P dels k.types (defs_in P es k.function w) choice) c.as_slice-2.ensures.value
    (c.in_ok-choice.ensures k.types (subst (Every (AppliesTo P k.types)) (sym c.as_slice.ensures.value) (among_apply P es k w some defs)) (defs_in P es k.function w)
    (subst (HaveLatest P k.types (defs_in P es k.function w)) (sym c.as_slice.ensures.value) (among_have P es k w some defs))))
