use Rattle.std.proofs.Common.{◌∙◌, sym, ap, Err}
use Rattle.jl_frames.specs.Held.{first_value}
use Rattle.jl_machine.specs.Fetched.{task_of}
use Rattle.jl_machine.specs.Lent.{after_answer}
use Rattle.jl_machine.proofs.Asking.{lent_fetched_is, lent_refused_is, lent_waits}
use Rattle.jl_machine.proofs.task.Task.fetch.Goals as goal

pub returns-in_ok-refuse_fetch-in-None : goal.returns-in_ok-refuse_fetch-in-None
returns-in_ok-refuse_fetch-in-None g c =
    let (a, form) = c.requires.form in
    rw c.in_ok-refuse_fetch-in-None.ensures.same (lent_refused_is (g.D.Dispatcher.knows c.args.with.now) (g.D.Dispatcher.knows c.args.with.now) c.args.self.now _ a form c.requires.fits c.in_ok-refuse_fetch-in-None.field-0 _ (ap (λ vs. task_of (first_value vs)) (sym c.open_values.ensures) ∙ sym c.in-None.ensures) c.in_ok-refuse_fetch-in-None.ensures.reaches)

pub returns-in_ok-goes-in-Ok : goal.returns-in_ok-goes-in-Ok
returns-in_ok-goes-in-Ok g c =
    let (a, form) = c.requires.form in
    rw c.after_answer.ensures (lent_fetched_is _ _ c.args.self.now _ a form c.requires.fits (after_answer c.in_ok-goes-in-Ok.goes) c.in-Some.task c.in-Ok.outcome c.push.new.self _ c.in-Ok.ensures.grew (ap (λ vs. task_of (first_value vs)) (sym c.open_values.ensures) ∙ sym c.in-Some.ensures) c.in-Ok.ensures.fetched c.in-Ok.ensures.valid
    (rw c.seen-at.ensures at c.in_ok-push-in-Ok.ensures) (rw (c.fetched_outcome-answer.ensures, c.in_ok-copy-in-Ok.ensures, c.get.ensures, c.clear.ensures) at c.in_ok-goes-in-Ok.ensures))

pub returns-in-Err-NotYet : goal.returns-in-Err-NotYet
returns-in-Err-NotYet g c =
    let (a, form) = c.requires.form in lent_waits _ _ c.args.self.now _ a form c.requires.fits c.in-Some.task (ap (λ vs. task_of (first_value vs)) (sym c.open_values.ensures) ∙ sym c.in-Some.ensures) c.in-Err-NotYet.ensures.refused (c.in-Err-NotYet.ensures.not_yet (ap Err c.in-Err-NotYet.field-0-is))
