use Rattle.std.proofs.Common.{◌≡◌, ◌∙◌, ap, ◌∷◌, ◌++◌, [], Err}
use Rattle.jl_program.specs.declared.value.Value.TheVariants as V
use Rattle.jl_frames.specs.Held.{Held, with_open}
use Rattle.jl_machine.proofs.Asking.{place_there, lent_deleted, knows_deleted, lent_absent, lent_deletion_full}
use Rattle.jl_machine.proofs.task.Task.delete.Goals as goal

pub delete-requires : goal.delete-requires
delete-requires g c = place_there _ c.args.self.now c.args.expr.now c.args.place c.requires.form c.requires.fits

pub returns-in_ok-push-in-Ok-2 : goal.returns-in_ok-push-in-Ok-2
returns-in_ok-push-in-Ok-2 g c =
    let held = c.args.self.now.now.frames in
    let e : c.push-in-Ok.new.self ≡ with_open held (V.Nothing ∷ []) = c.in_ok-push-in-Ok-2.ensures ∙ ap (λ vs. with_open held (vs ++ V.Nothing ∷ [])) c.requires.settled.values in
    record {
      steps = lent_deleted _ _ c.args.self.now c.args.expr.now c.args.place c.requires.form c.requires.fits c.push.new.self c.push-in-Ok.new.self
          (rw c.seen-at.ensures at c.in_ok-push-in-Ok.ensures) e c.delete.ensures.grew c.in-Ok.ensures.deleted;
      knows = knows_deleted _ _ c.args.self.now c.args.expr.now c.args.place c.requires.form c.requires.fits c.push.new.self c.push-in-Ok.new.self
          (rw c.seen-at.ensures at c.in_ok-push-in-Ok.ensures) e c.delete.ensures.grew c.in-Ok.ensures.deleted;
      settled = record { value = (V.Nothing, ap (λ (h : Held). h.open_values) e); text = ap (λ (h : Held). h.open_text) e ∙ c.requires.settled.text };
    }

pub returns-in_ok-push-in-Err-NoSuchMethod : goal.returns-in_ok-push-in-Err-NoSuchMethod
returns-in_ok-push-in-Err-NoSuchMethod g c =
    lent_absent _ _ c.args.self.now c.args.expr.now c.args.place c.requires.form c.requires.fits c.args.ready.now _ c.end.result _ c.end.new.now c.requires.program c.deleted_function-function.ensures
    (rw c.seen-at-in-Err-NoSuchMethod.ensures at c.in_ok-push-in-Err-NoSuchMethod.ensures) c.delete.ensures.grew (c.in-Err-NoSuchMethod.ensures.absent (ap Err c.in-Err-NoSuchMethod.field-0-is)) c.end.ensures

pub returns-in_ok-push-in-Err-WorldLimit : goal.returns-in_ok-push-in-Err-WorldLimit
returns-in_ok-push-in-Err-WorldLimit g c =
    lent_deletion_full _ _ c.args.self.now c.args.expr.now c.args.place c.requires.form c.requires.fits c.end-in-Err-WorldLimit.result _ c.end-in-Err-WorldLimit.new.now
    (rw c.seen-at-in-Err-WorldLimit.ensures at c.in_ok-push-in-Err-WorldLimit.ensures) c.delete.ensures.grew (c.in-Err-WorldLimit.ensures.full (ap Err c.in-Err-WorldLimit.field-0-is)) c.end-in-Err-WorldLimit.ensures
