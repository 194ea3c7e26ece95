use Rattle.std.proofs.Common.{◌∙◌, ◌<◌, ap, sym, subst, refl, arith, ◌++◌, ◌∷◌, []}
use Rattle.jl_calculus.specs.declared.history.Event.TheVariants as Ev
use Rattle.jl_calculus.specs.Past.{tasks_of}
use Rattle.jl_lead.specs.Known.{IsStartAmong, IsKnownSo}
use Rattle.jl_lead.proofs.KnownFacts.{spawn_to, event_added}
use Rattle.jl_lead.proofs.past.Past.spawn.Goals as goal

pub invariant_of-self : goal.invariant_of-self
invariant_of-self c =
    let d = c.self.inside in
    subst (λ xs. IsKnownSo d.changes.0 d.changes.1 xs d.tasks d.ends.items) (sym c.in_err-push.ensures.items) c.self.invariant

pub invariant_of-self-2 : goal.invariant_of-self-2
invariant_of-self-2 c =
    let d = c.self.inside in
    let among = subst (λ v. IsStartAmong v.0 v.1 c.args.start) (sym c.self.view_is) c.requires.start in
    let room = subst (λ v. tasks_of v.1 < 4096) (sym c.self.view_is) c.requires.room in
    spawn_to d.changes.0 d.changes.1 d.events.items d.tasks d.ends.items c.self.invariant (let e = c.len.ensures ∙ d.events.ok.0 in omega (arith, e, c.if-len-ge-MOST_EVENTS.false))
    c.args.task c.args.start c.push.new.self.items among room c.in_ok-push.ensures.items

pub returns-clause-added : goal.returns-clause-added
returns-clause-added c =
    let d = c.self.inside in
    let h = c.self.invariant in
    event_added (d.changes.0, d.events.items) (d.changes.0, c.push.new.self.items) c.args.self.now (λ z. Ev.Spawn c.args.task (tasks_of z.1) c.args.start) refl c.self.view_is
    (c.in_ok-push.ensures.items ∙ ap (λ n. d.events.items ++ Ev.Spawn c.args.task n c.args.start ∷ []) h.tasks_are)
