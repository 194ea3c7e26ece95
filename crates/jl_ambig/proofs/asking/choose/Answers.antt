use Rattle.std.proofs.Common.{sym, subst}
use Rattle.std.specs.List.Sorted.{IsStrictlyIncreasing}
use Rattle.std.proofs.lemmas.List.Elements.{All-push}
use Rattle.jl_program.specs.Scope.{all_types}
use Rattle.jl_calculus.specs.Definitions.{worlds, HasSite}
use Rattle.jl_choosing.proofs.PickLemmas.{picked_sites, picked_rise, rise_increase}
use Rattle.jl_methods.proofs.AppliesLemmas.{concrete_types}
use Rattle.jl_subsig.specs.Side.{Every}
use Rattle.jl_ambig.specs.declared.asking.Known.{Known}
use Rattle.jl_ambig.specs.Asked.{IsKnown, AreKnown}
use Rattle.jl_ambig.proofs.AskLemmas.{known_choice}
use Rattle.jl_ambig.proofs.asking.choose.Goals as goal

pub find_applicable-requires-clause-types : goal.find_applicable-requires-clause-types
find_applicable-requires-clause-types c = concrete_types (all_types c.args.ready.now) c.args.types.now c.requires.types

pub returns-in-Some-clause-choice : goal.returns-in-Some-clause-choice
returns-in-Some-clause-choice c =
    let P = c.args.ready.now in
    let dels = c.args.dels.now in
    known_choice P dels c.args.types.now c.args.defs.now c.in_ok-those.those.items c.as_slice-picked.result.now c.in-Some.choice c.in_ok-those.ensures c.as_slice-picked.ensures.value
    (c.in-Some.ensures P dels (subst (AreKnown P dels) (sym c.as_slice.ensures.value) c.requires.known))

pub choose_standing-requires-clause-sites : goal.choose_standing-requires-clause-sites
choose_standing-requires-clause-sites c =
    subst (Every (HasSite c.args.ready.now)) (sym c.as_slice-picked.ensures.value)
    (picked_sites c.args.ready.now c.args.types.now c.args.defs.now c.in_ok-those.those.items c.requires.may.sites c.in_ok-those.ensures)

pub choose_standing-requires-clause-ordered : goal.choose_standing-requires-clause-ordered
choose_standing-requires-clause-ordered c =
    subst (λ ds. IsStrictlyIncreasing (worlds ds)) (sym c.as_slice-picked.ensures.value)
    (rise_increase 0 c.in_ok-those.those.items (picked_rise c.args.ready.now c.args.types.now 0 c.args.defs.now c.in_ok-those.those.items c.requires.may.ordered c.in_ok-those.ensures))

pub returns-clause-choice : goal.returns-clause-choice
returns-clause-choice c =
    known_choice c.args.ready.now c.args.dels.now c.args.types.now c.args.defs.now c.in_ok-those.those.items c.as_slice-picked.result.now c.in_ok-choice.choice c.in_ok-those.ensures c.as_slice-picked.ensures.value
    (record { right = c.in_ok-choice.ensures })

pub returns-clause-known : goal.returns-clause-known
returns-clause-known c =
    let P = c.args.ready.now in
    let dels = c.args.dels.now in
    let known : IsKnown P dels c.as_slice-picked.result.now c.in_ok-choice.choice = record { right = c.in_ok-choice.ensures } in
    subst (AreKnown P dels) (sym c.in_ok-push.ensures.items)
    (All-push (λ (k : Known). IsKnown P dels k.those.items k.choice) c.args.known.now.items (record { those = c.in_ok-those.those; choice = c.in_ok-choice.choice }) c.requires.known
    (subst (λ ds. IsKnown P dels ds c.in_ok-choice.choice) c.as_slice-picked.ensures.value known))
