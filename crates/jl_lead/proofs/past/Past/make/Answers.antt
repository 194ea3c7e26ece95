use Rattle.std.proofs.Common.{◌∙◌, ◌≤◌, ap, sym, subst, arith, ◌++◌, ◌∷◌, []}
use Rattle.jl_calculus.specs.World.{change_event, world_of}
use Rattle.jl_methods.specs.Filters.{IsOfProgram}
use Rattle.jl_lead.specs.Known.{IsKnownSo}
use Rattle.jl_lead.proofs.KnownFacts.{changes_count, made_to, event_added}
use Rattle.jl_lead.proofs.past.Past.make.Goals as goal

pub push-requires-clause-change : goal.push-requires-clause-change
push-requires-clause-change c = subst (λ v. IsOfProgram v.0 c.args.change) (sym c.self.view_is) c.requires.change

pub push-requires-clause-room : goal.push-requires-clause-room
push-requires-clause-room c =
    let d = c.self.inside in
    let room = subst (λ v. world_of v.1 ≤ 65535) (sym c.self.view_is) c.requires.room in
    omega (arith, room, changes_count d.changes.0 d.changes.1 d.events.items d.tasks d.ends.items c.self.invariant)

pub invariant_of-self : goal.invariant_of-self
invariant_of-self c =
    let d = c.self.inside in
    subst (λ xs. IsKnownSo d.changes.0 d.changes.1 xs d.tasks d.ends.items) (sym c.reserve.ensures.items) c.self.invariant

pub invariant_of-self-2 : goal.invariant_of-self-2
invariant_of-self-2 c =
    let d = c.self.inside in
    let room = subst (λ v. world_of v.1 ≤ 65535) (sym c.self.view_is) c.requires.room in
    made_to d.changes.0 d.changes.1 d.events.items d.tasks d.ends.items c.self.invariant (let e = c.len.ensures ∙ d.events.ok.0 in omega (arith, e, c.if-len-ge-MOST_EVENTS.false))
    c.args.task c.args.change c.push.new.self c.push_reserved.new.self.items room c.in_ok-push.ensures.added
    (c.push_reserved.ensures.items ∙ ap (λ es. es ++ c.event.result ∷ []) c.reserve.ensures.items ∙ ap (λ e. d.events.items ++ e ∷ []) c.event.ensures)

pub returns-clause-added : goal.returns-clause-added
returns-clause-added c =
    let d = c.self.inside in
    event_added (d.changes.0, d.events.items) (c.push.new.self.0, c.push_reserved.new.self.items) c.args.self.now (λ z. change_event c.args.task c.args.change) (ap (λ v. v.0) c.in_ok-push.ensures.added) c.self.view_is
    (c.push_reserved.ensures.items ∙ ap (λ es. es ++ c.event.result ∷ []) c.reserve.ensures.items ∙ ap (λ e. d.events.items ++ e ∷ []) c.event.ensures)
