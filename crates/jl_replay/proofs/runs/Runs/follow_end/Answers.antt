use Rattle.std.proofs.Common.{◌∙◌, sym, subst, refl, ◌∷◌, [], ◌++◌}
use Rattle.jl_calculus.specs.declared.history.Event.TheVariants as Ev
use Rattle.jl_replay.specs.Following.{IsToldBy}
use Rattle.jl_replay.proofs.Followed.{end_here, end_going, no_end, other_end, end_followed}
use Rattle.jl_replay.proofs.runs.Runs.follow_end.Goals as goal

pub take_task-requires-clause-running : goal.take_task-requires-clause-running
take_task-requires-clause-running g c =
    let q = c.requires in
    let a = c.args in
    let h = end_here a.ready.now a.entries.now q.judged a.self.now q.followed a.n q.here a.task a.calls a.trace.now a.output.now a.ending.now q.entry in
    h.running

pub follow_end-requires-clause-going : goal.follow_end-requires-clause-going
follow_end-requires-clause-going g c =
    let q = c.requires in
    let a = c.args in
    end_going a.ready.now a.entries.now q.judged a.self.now q.followed a.n q.here a.task a.calls a.trace.now a.output.now a.ending.now q.entry c.in_ok-running.running c.in_ok-running.ensures.way

pub returns-in_ok-end-in-Ok-true : goal.returns-in_ok-end-in-Ok-true
returns-in_ok-end-in-Ok-true g c =
    let q = c.requires in
    let a = c.args in
    let ended = c.in-Some.record in
    let run = rw c.in-Some.is at c.in_ok-record.ensures.run in
    let kept = rw c.in-Some.is at c.in_ok-record.ensures.kept in
    end_followed a.ready.now a.entries.now q.judged a.self.now q.followed a.n q.here a.task a.calls a.trace.now a.output.now a.ending.now q.entry c.in_ok-running.running c.in_ok-running.ensures.way ended run
    (record { led = c.end.new.self; tasks = c.take_task.new.tasks; fuel = a.self.now.fuel })
    (subst (λ P. IsToldBy P ended a.calls a.output.now a.ending.now) c.program.ensures (c.in-Ok-true.ensures.0 c.in-Ok-true.field-0-test))
    (c.in_ok-end-in-Ok-true.ensures.added ∙ (λ i. ((kept.0 ∙ sym q.followed.program) i, kept.1 i ++ Ev.Done a.task ended ∷ []))) refl c.in_ok-running.ensures.gone

pub returns-in-Ok-false : goal.returns-in-Ok-false
returns-in-Ok-false g c =
    let q = c.requires in
    let a = c.args in
    let ended = c.in-Some.record in
    let run = rw c.in-Some.is at c.in_ok-record.ensures.run in
    other_end a.ready.now a.entries.now q.judged a.self.now q.followed a.n q.here a.task a.calls a.trace.now a.output.now a.ending.now q.entry c.in_ok-running.running c.in_ok-running.ensures.way ended run
    (λ told. cc (c.in-Ok-false.ensures.1 (subst (λ P. IsToldBy P ended a.calls a.output.now a.ending.now) (sym c.program.ensures) told), c.in-Ok-false.field-0-test))

pub returns-in-None : goal.returns-in-None
returns-in-None g c =
    let q = c.requires in
    let a = c.args in
    no_end a.ready.now a.entries.now q.judged a.self.now q.followed a.n q.here a.task a.calls a.trace.now a.output.now a.ending.now q.entry c.in_ok-running.running c.in_ok-running.ensures.way
    (rw c.in-None.is at c.in_ok-record.ensures.run)
