use Rattle.std.proofs.Common.{◌≡◌, ◌∙◌, ap, sym, subst, refl, slice_get, Some}
use Rattle.std.specs.List.Sorted.{IsStrictlyIncreasing}
use Rattle.std.proofs.lemmas.Option.{slice_get_read}
use Rattle.jl_program.specs.declared.tree.Program.{Program}
use Rattle.jl_calculus.specs.Definitions.{HasSite, worlds}
use Rattle.jl_subsig.specs.Side.{Every}
use Rattle.jl_subsig.specs.Standing.{HasPlace}
use Rattle.jl_core.specs.Flags.{IsOfFunction, AreFlags}
use Rattle.jl_core.proofs.PickedLemmas.{flags_long, picked_increase}
use Rattle.jl_core.proofs.StandingLemmas.{flagged_sites, flagged_places, found_told}
use Rattle.jl_core.proofs.standing.has_method_for.Goals as goal

pub defs_of-requires-clause-long : goal.defs_of-requires-clause-long
defs_of-requires-clause-long c =
    flags_long (IsOfFunction c.program-program.result.now c.in-Some.found.now.function) c.as_slice-known.result.now c.as_slice-flagged.result.now
    (subst (AreFlags (IsOfFunction c.program-program.result.now c.in-Some.found.now.function) c.as_slice-known.result.now) (sym c.as_slice-flagged.ensures.value) c.in_ok-flags.ensures)

pub dels_of-requires-clause-long : goal.dels_of-requires-clause-long
dels_of-requires-clause-long c =
    flags_long (IsOfFunction c.program-program.result.now c.in-Some.found.now.function) c.as_slice-known.result.now c.as_slice-flagged.result.now
    (subst (AreFlags (IsOfFunction c.program-program.result.now c.in-Some.found.now.function) c.as_slice-known.result.now) (sym c.as_slice-flagged.ensures.value) c.in_ok-flags.ensures)

pub has_standing-requires-clause-sites : goal.has_standing-requires-clause-sites
has_standing-requires-clause-sites c =
    let P = c.program-program.result.now in
    let f = c.in-Some.found.now.function in
    let flags = subst (AreFlags (IsOfFunction P f) c.as_slice-known.result.now) (sym c.as_slice-flagged.ensures.value) c.in_ok-flags.ensures in
    subst (λ (Q : Program). Every (HasSite Q) c.as_slice-2.result.now) c.program-program.ensures
    (subst (Every (HasSite P)) (sym (c.as_slice-2.ensures.value ∙ c.in_ok-defs.ensures)) (flagged_sites P f (IsOfFunction P f) (λ x q. q) _ _ flags))

pub has_standing-requires-clause-places : goal.has_standing-requires-clause-places
has_standing-requires-clause-places c =
    let P = c.program-program.result.now in
    let f = c.in-Some.found.now.function in
    let flags = subst (AreFlags (IsOfFunction P f) c.as_slice-known.result.now) (sym c.as_slice-flagged.ensures.value) c.in_ok-flags.ensures in
    subst (λ (Q : Program). Every (HasPlace Q) c.as_slice-3.result.now) c.program-program.ensures
    (subst (Every (HasPlace P)) (sym (c.as_slice-3.ensures.value ∙ c.in_ok-dels.ensures)) (flagged_places P f (IsOfFunction P f) (λ x q. q) _ _ flags))

pub has_standing-requires-clause-ordered : goal.has_standing-requires-clause-ordered
has_standing-requires-clause-ordered c =
    subst (λ ds. IsStrictlyIncreasing (worlds ds)) (sym (c.as_slice-2.ensures.value ∙ c.in_ok-defs.ensures)) (picked_increase 1 c.as_slice-known.result.now c.as_slice-flagged.result.now)

pub returns : goal.returns
returns c =
    let P = c.args.ready.now in
    let f = c.in-Some.found.now.function in
    let at = c.in-Some.ensures.lookup in
    let there : slice_get P.deletes c.args.place ≡ Some c.in-Some.found.now =
    ap (λ xs. slice_get xs c.args.place) (sym (c.as_slice.ensures ∙ ap (λ (p : Program). p.deletes) c.program-program.ensures)) ∙ slice_get_read c.as_slice.result.now _ c.args.place c.in-Some.found.now refl at.3.0 at.1 in
    let flags = subst (λ (Q : Program). AreFlags (IsOfFunction Q f) c.as_slice-known.result.now c.as_slice-flagged.result.now) c.program-program.ensures
    (subst (AreFlags (IsOfFunction c.program-program.result.now f) c.as_slice-known.result.now) (sym c.as_slice-flagged.ensures.value) c.in_ok-flags.ensures) in
    found_told P c.args.place c.in-Some.found.now there c.args.events.now c.as_slice-known.result.now c.as_slice-flagged.result.now c.in_ok-defs.defs.items c.as_slice-2.result.now c.in_ok-dels.dels.items c.as_slice-3.result.now c.in_ok-yes.yes
    (c.as_slice-known.ensures.value ∙ c.in_ok-made.ensures) flags c.in_ok-defs.ensures c.as_slice-2.ensures.value c.in_ok-dels.ensures c.as_slice-3.ensures.value c.in_ok-yes.ensures
