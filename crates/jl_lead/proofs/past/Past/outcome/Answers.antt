use Rattle.std.proofs.Common.{◌∙◌, ap, sym, subst}
use Rattle.jl_calculus.specs.Past.{done_of}
use Rattle.jl_calculus.specs.ValidHistory.{IsValidOutcome}
use Rattle.jl_lead.specs.Known.{AreEnds}
use Rattle.jl_lead.proofs.KnownFacts.{done_told, done_valid}
use Rattle.jl_lead.proofs.past.Past.outcome.Goals as goal

pub record_of-requires : goal.record_of-requires
record_of-requires c =
    let d = c.self.inside in
    let h = c.self.invariant in
    subst (AreEnds c.as_slice-events.result.now) (sym c.as_slice-ends.ensures.value) (subst (λ es. AreEnds es d.ends.items) (sym c.as_slice-events.ensures.value) h.ends_are)

pub returns-in_ok-outcome-in-Some-clause-ended : goal.returns-in_ok-outcome-in-Some-clause-ended
returns-in_ok-outcome-in-Some-clause-ended c =
    done_told c.args.self.now.1 c.as_slice-events.result.now c.args.task c.in-Some.ended.now c.in_ok-outcome-in-Some.outcome (c.as_slice-events.ensures.value ∙ ap (λ v. v.1) c.self.view_is) c.in-Some.ensures
    c.in_ok-outcome-in-Some.ensures

pub returns-in_ok-outcome-in-Some-clause-valid : goal.returns-in_ok-outcome-in-Some-clause-valid
returns-in_ok-outcome-in-Some-clause-valid c =
    let d = c.self.inside in
    let h = c.self.invariant in
    subst (λ v. IsValidOutcome v.0 c.in_ok-outcome-in-Some.outcome) c.self.view_is
    (done_valid d.changes.0 d.events.items c.as_slice-events.result.now c.args.task c.in-Some.ended.now c.in_ok-outcome-in-Some.outcome h.sound c.as_slice-events.ensures.value c.in-Some.ensures c.in_ok-outcome-in-Some.ensures)

pub returns-in-None-clause-ended : goal.returns-in-None-clause-ended
returns-in-None-clause-ended c = sym (ap (done_of c.args.task) (c.as_slice-events.ensures.value ∙ ap (λ v. v.1) c.self.view_is)) ∙ c.in-None.ensures
