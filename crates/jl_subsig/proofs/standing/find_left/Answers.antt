use Rattle.std.proofs.Common.{◌≡◌, sym, subst, arith, length}
use Rattle.jl_subsig.specs.Side.{Every}
use Rattle.jl_subsig.specs.Standing.{HasPlace, AreLeft}
use Rattle.jl_subsig.proofs.StandingLemmas.{none_of, all_left, last_has, left_whole}
use Rattle.jl_subsig.proofs.standing.find_left.Goals as goal

pub returns-then-is_empty : goal.returns-then-is_empty
returns-then-is_empty c =
    let none : length c.args.dels.now ≡ 0 = grind (arith, c.is_empty.ensures, c.if-is_empty.true) in
    all_left c.args.ready.now c.args.dels.now (none_of c.args.dels.now none) c.args.defs.items

pub pick_left-requires-clause-places : goal.pick_left-requires-clause-places
pick_left-requires-clause-places c =
    subst (Every (HasPlace c.args.ready.now)) (sym c.as_slice-2.ensures.value) (last_has (HasPlace c.args.ready.now) c.args.dels.now c.in_ok-last.last.items c.requires.places c.in_ok-last.ensures)

pub returns : goal.returns
returns c =
    let P = c.args.ready.now in
    let some = c.in_ok-last.last.items in
    let those = c.in_ok-those.those.items in
    left_whole P c.args.dels.now some c.in_ok-last.ensures c.args.defs.items those
    (subst (λ es. AreLeft P es c.args.defs.items those) c.as_slice-2.ensures.value (subst (λ ds. AreLeft P c.as_slice-2.result.now ds those) c.as_slice.ensures.value c.in_ok-those.ensures))
