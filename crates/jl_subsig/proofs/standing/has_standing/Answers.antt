use Rattle.std.proofs.Common.{◌≡◌, ◌+◌, ◌-◌, ◌<◌, ℕ, arith, refl, sym, subst, length}
use Rattle.std.proofs.lemmas.Bool.{both_ways}
use Rattle.jl_subsig.proofs.StandingLemmas.{NoneFrom, none_over, none_again}
use Rattle.jl_subsig.proofs.standing.has_standing.Goals as goal

pub loop-past-preserved-then-is_made_again : goal.loop-past-preserved-then-is_made_again
loop-past-preserved-then-is_made_again c =
    let P = c.args.ready.now in
    let dels = c.args.dels.now in
    let place = c.args.place in
    let defs = c.args.defs.now in
    let at : ℕ = length defs - 1 - c.loop-past.past in
    let within : at < length defs = omega (arith, c.loop-past-test.true) in
    let before : length defs - c.loop-past.past ≡ at + 1 = omega (arith, c.loop-past-test.true) in
    let here : at ≡ length defs - (c.loop-past.past + 1) = omega (arith, c.loop-past-test.true) in
    subst (NoneFrom P dels place defs) here
    (none_again P dels place defs at within c.requires.ordered (c.if-is_made_again.ensures refl) (subst (NoneFrom P dels place defs) before c.loop-past.invariant))

pub loop-past-preserved : goal.loop-past-preserved
loop-past-preserved c =
    let P = c.args.ready.now in
    let dels = c.args.dels.now in
    let place = c.args.place in
    let defs = c.args.defs.now in
    let at : ℕ = length defs - 1 - c.loop-past.past in
    let within : at < length defs = omega (arith, c.loop-past-test.true) in
    let before : length defs - c.loop-past.past ≡ at + 1 = omega (arith, c.loop-past-test.true) in
    let here : at ≡ length defs - (c.loop-past.past + 1) = omega (arith, c.loop-past-test.true) in
    subst (NoneFrom P dels place defs) here
    (none_over P dels place defs at within (λ s. both_ways c.in_ok-is_left.is_left c.if-is_left.false (c.in_ok-is_left.ensures.1 s)) (subst (NoneFrom P dels place defs) before c.loop-past.invariant))
