use Rattle.std.proofs.Common.{◌≡◌, subst, arith, refl, MatchOption, None}
use Rattle.jl_calculus.specs.Past.{EndedSo, done_of}
use Rattle.jl_calculus.specs.ValidHistory.{IsValidOutcome}
use Rattle.jl_lead.proofs.Whole.{placed_on, fetch_ended, fetch_lost}
use Rattle.jl_lead.proofs.led.Led.fetch_alone.Goals as goal

pub invariant_of-self : goal.invariant_of-self
invariant_of-self c =
    let s = c.args.self.now in
    record { placed = placed_on s.past.1 s.task s.seen c.len-self.result s.placed (let e = c.len-self.ensures in omega (arith, e)); left = λ l. c.len-self.ensures }

pub returns-in-Some : goal.returns-in-Some
returns-in-Some c =
    let s = c.args.self.now in
    fetch_ended s.past.0 s.past.1 s.task s.items.items s.told s.seen s.looks s.alone c.args.task c.len-self.result c.in-Some.outcome c.requires s.placed.seen_some c.len-self.ensures
    (subst (λ o. MatchOption o (done_of c.args.task s.past.1 ≡ None) (EndedSo (done_of c.args.task s.past.1))) c.in-Some.is c.in-Ok.ensures.ended)
    (subst (λ o. MatchOption o (Unit {0}) (IsValidOutcome s.past.0)) c.in-Some.is c.in-Ok.ensures.valid)

pub make_end-requires-clause-running : goal.make_end-requires-clause-running
make_end-requires-clause-running c =
    let s = c.args.self.now in
    subst (λ o. MatchOption o (done_of c.args.task s.past.1 ≡ None) (EndedSo (done_of c.args.task s.past.1))) c.in-None.is c.in-Ok.ensures.ended

pub returns-in-Err : goal.returns-in-Err
returns-in-Err c =
    let s = c.args.self.now in
    fetch_lost s.past.0 s.past.1 s.task s.items.items s.told s.seen s.looks s.alone c.args.task s.past refl
