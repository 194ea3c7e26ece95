use Rattle.std.proofs.Common.{◌≡◌, ◌∙◌, ap, subst, refl, ◌∷◌, ◌++◌, [], Err, List, map}
use Rattle.jl_model.specs.declared.ty.Ty.{Ty}
use Rattle.jl_program.specs.declared.tree.Start.{Start}
use Rattle.jl_program.specs.declared.value.Value.TheVariants as V
use Rattle.jl_program.specs.Meaning.{datum}
use Rattle.jl_program.specs.declared.fault.Fault.TheVariants as F
use Rattle.jl_calculus.specs.declared.history.Outcome.TheVariants as O
use Rattle.jl_task.specs.declared.point.Work.TheVariants as W
use Rattle.jl_frames.specs.Held.{Held, with_open, opens}
use Rattle.jl_machine.specs.declared.now.LentNow.{LentNow}
use Rattle.jl_machine.specs.Lent.{now_of, Reaches}
use Rattle.jl_machine.proofs.Asking.{lent_spawned, knows_spawned, lent_tasks_full, start_valid, spawned_of}
use Rattle.jl_machine.proofs.task.Task.spawn.Goals as goal

pub spawn-requires-clause-valid : goal.spawn-requires-clause-valid
spawn-requires-clause-valid g c =
    let frames : Held = c.args.self.now.now.frames in
    let types : c.bindings.result.now ≡ frames.bindings = c.bindings.ensures ∙ ap (λ (h : Held). h.bindings) c.share_env.ensures.same in
    let start : c.in_ok-start.start ≡ record { spawn = c.args.place; env = map datum frames.env; bindings = c.bindings.result.now; world = c.args.self.now.now.world }
    = c.in_ok-start.ensures ∙ (λ i. record { spawn = c.args.place; env = c.in_ok-seen.ensures.env i; bindings = c.bindings.result.now; world = c.args.self.now.now.world }) in
    start_valid _ c.args.self.now c.args.expr.now c.args.place c.requires.form c.requires.fits c.in_ok-start.start frames.env _ refl types start

pub returns-in_ok-push-in-Ok-2 : goal.returns-in_ok-push-in-Ok-2
returns-in_ok-push-in-Ok-2 g c =
    let held : Held = c.args.self.now.now.frames in
    let types : c.bindings.result.now ≡ held.bindings = c.bindings.ensures ∙ ap (λ (h : Held). h.bindings) c.share_env.ensures.same in
    let start : c.in_ok-start.start ≡ record { spawn = c.args.place; env = map datum held.env; bindings = c.bindings.result.now; world = c.args.self.now.now.world }
    = c.in_ok-start.ensures ∙ (λ i. record { spawn = c.args.place; env = c.in_ok-seen.ensures.env i; bindings = c.bindings.result.now; world = c.args.self.now.now.world }) in
    let e : c.push-in-Ok.new.self ≡ with_open held (V.Task c.in-Ok.child ∷ [])
    = c.in_ok-push-in-Ok-2.ensures ∙ ap (λ h. opens h (V.Task c.in-Ok.child)) c.share_env.ensures.same ∙ ap (λ vs. with_open held (vs ++ V.Task c.in-Ok.child ∷ [])) c.requires.settled.values in
    let spawned = spawned_of _ _ c.args.self.now c.args.place c.in-Ok.child c.in_ok-start.start held.env _ refl types start c.in-Ok.ensures.spawned in
    record {
      steps = lent_spawned _ _ c.args.self.now c.args.expr.now c.args.place c.requires.form c.spawn.ensures.grew c.requires.fits c.in-Ok.child c.push.new.self c.push-in-Ok.new.self
          (rw c.seen-at.ensures at c.in_ok-push-in-Ok.ensures) e spawned;
      knows = knows_spawned _ _ c.args.self.now c.args.expr.now c.args.place c.requires.form c.spawn.ensures.grew c.requires.fits c.in-Ok.child c.push.new.self c.push-in-Ok.new.self
          (rw c.seen-at.ensures at c.in_ok-push-in-Ok.ensures) e spawned;
      settled = record { value = (V.Task c.in-Ok.child, ap (λ (h : Held). h.open_values) e); text = ap (λ (h : Held). h.open_text) e ∙ c.requires.settled.text };
    }

pub returns-in_ok-push-in-Err-TaskLimit : goal.returns-in_ok-push-in-Err-TaskLimit
returns-in_ok-push-in-Err-TaskLimit g c =
    let n : LentNow = c.args.self.now.now in
    let ended : Reaches c.end.result c.end.new.now (W.Ended (O.Error F.TaskLimit), now_of n)
    = subst (λ (h : Held). Reaches c.end.result c.end.new.now (W.Ended (O.Error F.TaskLimit), now_of (record n { frames = h }))) c.share_env.ensures.same c.end.ensures in
    lent_tasks_full _ _ c.args.self.now c.args.expr.now c.args.place c.requires.form c.spawn.ensures.grew c.requires.fits c.end.result _ c.end.new.now
    (rw c.seen.ensures at c.in_ok-push-in-Err-TaskLimit.ensures) (c.in-Err-TaskLimit.ensures.full (ap Err c.in-Err-TaskLimit.field-0-is)) ended
