use Rattle.std.proofs.Common.{◌∙◌, sym, subst, arith, take}
use Rattle.std.proofs.lemmas.List.{length-take-le}
use Rattle.std.specs.List.Sorted.{IsStrictlyIncreasing}
use Rattle.jl_calculus.specs.Definitions.{HasSite, worlds}
use Rattle.jl_subsig.specs.Side.{Every}
use Rattle.jl_subsig.specs.Standing.{HasPlace}
use Rattle.jl_core.specs.Flags.{IsTouching}
use Rattle.jl_core.proofs.PickedLemmas.{flags_long, flags_take, picked_increase}
use Rattle.jl_core.proofs.StandingLemmas.{of_function, flagged_sites, flagged_places, choice_told}
use Rattle.jl_core.proofs.range.choice_of.Goals as goal

pub slice_bounds-flagged-end : goal.slice_bounds-flagged-end
slice_bounds-flagged-end c =
    let l = flags_long (IsTouching c.args.ready.now c.args.key.now) c.args.made.now c.args.flags.now c.requires.flags in
    sym (length-take-le c.args.world c.args.flags.now (omega (arith, l, c.requires.high)))

pub defs_of-requires-clause-long : goal.defs_of-requires-clause-long
defs_of-requires-clause-long c =
    flags_long (IsTouching c.args.ready.now c.args.key.now) _ _ (flags_take (IsTouching c.args.ready.now c.args.key.now) c.args.world c.args.made.now c.args.flags.now c.requires.flags)

pub dels_of-requires-clause-long : goal.dels_of-requires-clause-long
dels_of-requires-clause-long c =
    flags_long (IsTouching c.args.ready.now c.args.key.now) _ _ (flags_take (IsTouching c.args.ready.now c.args.key.now) c.args.world c.args.made.now c.args.flags.now c.requires.flags)

pub choose_standing-requires-clause-sites : goal.choose_standing-requires-clause-sites
choose_standing-requires-clause-sites c =
    let P = c.args.ready.now in
    let key = c.args.key.now in
    subst (Every (HasSite P)) (sym (c.as_slice.ensures.value ∙ c.in_ok-defs.ensures))
    (flagged_sites P key.function (IsTouching P key) (of_function P key) _ _ (flags_take (IsTouching P key) c.args.world c.args.made.now c.args.flags.now c.requires.flags))

pub choose_standing-requires-clause-places : goal.choose_standing-requires-clause-places
choose_standing-requires-clause-places c =
    let P = c.args.ready.now in
    let key = c.args.key.now in
    subst (Every (HasPlace P)) (sym (c.as_slice-2.ensures.value ∙ c.in_ok-dels.ensures))
    (flagged_places P key.function (IsTouching P key) (of_function P key) _ _ (flags_take (IsTouching P key) c.args.world c.args.made.now c.args.flags.now c.requires.flags))

pub choose_standing-requires-clause-ordered : goal.choose_standing-requires-clause-ordered
choose_standing-requires-clause-ordered c =
    subst (λ ds. IsStrictlyIncreasing (worlds ds)) (sym (c.as_slice.ensures.value ∙ c.in_ok-defs.ensures)) (picked_increase 1 (take c.args.world c.args.made.now) (take c.args.world c.args.flags.now))

pub returns : goal.returns
returns c = λ es e.
    choice_told c.args.ready.now c.valid.ensures c.args.key.now c.requires.key es c.args.made.now c.args.flags.now c.args.world c.in_ok-defs.defs.items c.as_slice.result.now c.in_ok-dels.dels.items c.as_slice-2.result.now c.in_ok-choice.choice
    c.requires.flags c.in_ok-defs.ensures c.as_slice.ensures.value c.in_ok-dels.ensures c.as_slice-2.ensures.value c.in_ok-choice.ensures e
