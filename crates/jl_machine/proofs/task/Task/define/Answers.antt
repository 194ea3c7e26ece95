use Rattle.std.proofs.Common.{◌≡◌, ◌∙◌, ap, ◌∷◌, ◌++◌, [], Err}
use Rattle.jl_program.specs.declared.value.Value.TheVariants as V
use Rattle.jl_frames.specs.Held.{Held, with_open}
use Rattle.jl_machine.proofs.Asking.{lent_made, knows_made, lent_worlds_full}
use Rattle.jl_machine.proofs.task.Task.define.Goals as goal

pub returns-in_ok-push-in-Ok-2 : goal.returns-in_ok-push-in-Ok-2
returns-in_ok-push-in-Ok-2 g c =
    let held = c.args.self.now.now.frames in
    let e : c.push-in-Ok.new.self ≡ with_open held (V.Nothing ∷ []) = c.in_ok-push-in-Ok-2.ensures ∙ ap (λ vs. with_open held (vs ++ V.Nothing ∷ [])) c.requires.settled.values in
    record {
      steps = lent_made _ _ c.args.self.now c.args.site c.args.fresh c.args.rest.now c.define.ensures.grew c.requires.fits c.push.new.self c.push-in-Ok.new.self
          (rw c.seen-at.ensures at c.in_ok-push-in-Ok.ensures) e c.in-Ok.ensures.defined;
      knows = knows_made _ _ c.args.self.now c.args.site c.args.fresh c.args.rest.now c.define.ensures.grew c.requires.fits c.push.new.self c.push-in-Ok.new.self
          (rw c.seen-at.ensures at c.in_ok-push-in-Ok.ensures) e c.in-Ok.ensures.defined;
      settled = record { value = (V.Nothing, ap (λ (h : Held). h.open_values) e); text = ap (λ (h : Held). h.open_text) e ∙ c.requires.settled.text };
    }

pub returns-in_ok-push-in-Err-WorldLimit : goal.returns-in_ok-push-in-Err-WorldLimit
returns-in_ok-push-in-Err-WorldLimit g c =
    lent_worlds_full _ _ c.args.self.now c.args.site c.args.fresh c.args.rest.now c.define.ensures.grew c.requires.fits c.end.result _ c.end.new.now
    (rw c.seen.ensures at c.in_ok-push-in-Err-WorldLimit.ensures) (c.in-Err-WorldLimit.ensures.full (ap Err c.in-Err-WorldLimit.field-0-is)) c.end.ensures
