use Rattle.std.proofs.Common.{◌∙◌, sym, subst, arith}
use Rattle.jl_calculus.specs.declared.history.Event.TheVariants as Ev
use Rattle.jl_calculus.specs.ValidHistory.{IsValidOutcome}
use Rattle.jl_lead.specs.Known.{IsKnownSo}
use Rattle.jl_lead.proofs.EndLemmas.{back_again}
use Rattle.jl_lead.proofs.KnownFacts.{done_to, done_back}
use Rattle.jl_lead.proofs.past.Past.end.Goals as goal

pub invariant_of-self : goal.invariant_of-self
invariant_of-self c =
    let d = c.self.inside in
    subst (λ xs. IsKnownSo d.changes.0 d.changes.1 xs d.tasks d.ends.items) (sym c.in_err-push.ensures.items) c.self.invariant

pub invariant_of-self-in-Ok : goal.invariant_of-self-in-Ok
invariant_of-self-in-Ok c =
    let d = c.self.inside in
    done_to d.changes.0 d.changes.1 d.events.items d.tasks d.ends.items c.self.invariant (let e = c.len.ensures ∙ d.events.ok.0 in omega (arith, e, c.if-len-ge-MOST_EVENTS.false))
    c.args.task c.len-before.result c.args.ended c.push.new.self.items c.note_end.new.ends.items (subst (λ v. IsValidOutcome v.0 c.args.ended.outcome) (sym c.self.view_is) c.requires) c.in_ok-push.ensures.items
    (c.len-before.ensures ∙ d.events.ok.0) c.in-Ok.ensures.noted

pub invariant_of-self-in-Err : goal.invariant_of-self-in-Err
invariant_of-self-in-Err c =
    let d = c.self.inside in
    done_back d.changes.0 d.changes.1 d.events.items d.tasks d.ends.items c.self.invariant (let e = c.len.ensures ∙ d.events.ok.0 in omega (arith, e, c.if-len-ge-MOST_EVENTS.false)) c.truncate.new.self.items
    c.note_end.new.ends.items
    (back_again d.events.items c.push.new.self.items c.truncate.new.self.items c.len-before.result (Ev.Done c.args.task c.args.ended) c.in_ok-push.ensures.items (c.len-before.ensures ∙ d.events.ok.0) c.truncate.ensures.items)
    c.in-Err.ensures.refused
