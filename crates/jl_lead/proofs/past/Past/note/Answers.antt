use Rattle.std.proofs.Common.{◌∙◌, sym, subst, arith}
use Rattle.jl_lead.specs.Known.{IsKnownSo}
use Rattle.jl_lead.proofs.KnownFacts.{plain_to}
use Rattle.jl_lead.proofs.past.Past.note.Goals as goal

pub invariant_of-self : goal.invariant_of-self
invariant_of-self c =
    let d = c.self.inside in
    subst (λ xs. IsKnownSo d.changes.0 d.changes.1 xs d.tasks d.ends.items) (sym c.in_err-push.ensures.items) c.self.invariant

pub invariant_of-self-2 : goal.invariant_of-self-2
invariant_of-self-2 c =
    let d = c.self.inside in
    plain_to d.changes.0 d.changes.1 d.events.items d.tasks d.ends.items c.self.invariant (let e = c.len.ensures ∙ d.events.ok.0 in omega (arith, e, c.if-len-ge-MOST_EVENTS.false))
    c.args.event c.push.new.self.items c.requires c.in_ok-push.ensures.items
