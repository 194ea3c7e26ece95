use Rattle.std.proofs.Common.{◌∙◌, ap, refl, ◌++◌}
use Rattle.jl_program.specs.declared.tree.Program.{Program}
use Rattle.jl_frames.specs.Held.{Held, with_open, starts}
use Rattle.jl_machine.proofs.Whole.{new_task_is, there_is}
use Rattle.jl_machine.proofs.machine.new_task.Goals as goal

pub returns : goal.returns
returns c =
    let spawns = c.as_slice-2.ensures ∙ ap (λ (P : Program). P.spawns) c.program.ensures in
    let there = there_is c.as_slice-2.result.now c.args.start.now.spawn c.index-as_slice-start.result (rw spawns c.requires) c.index-as_slice-start.is in
    let values = c.in_ok-open_env.ensures.values in
    let opened = c.in_ok-open_env.ensures.opened ∙ ap (λ (h : Held). with_open h (h.open_values ++ values)) c.new-frames.ensures in
    let started = c.in_ok-start.ensures ∙ (λ i. starts (opened i) (c.as_slice.ensures i)) in
    new_task_is c.args.ready.now c.args.start.now c.args.fuel values _ _ c.first_task-task.result c.index-as_slice-start.result (rw spawns at there) c.in_ok-open_env.ensures.mean started c.first_task-task.ensures refl
    (record { values = ap (λ (h : Held). h.open_values) (c.first_task-task.ensures.frames_are ∙ started); text = ap (λ (h : Held). h.open_text) (c.first_task-task.ensures.frames_are ∙ started) }) _ (c.new-memo.ensures ∙ c.table.ensures)
