use Rattle.std.proofs.Common.{◌∙◌, ap, sym}
use Rattle.jl_lead.specs.Items.{next_item, task_full_of}
use Rattle.jl_lead.proofs.Answering.{seen_task_full, left_task_full}
use Rattle.jl_lead.proofs.Whole.{placed_on, spawn_told}
use Rattle.jl_lead.proofs.led.Led.answer_spawn.Goals as goal

pub invariant_of-self : goal.invariant_of-self
invariant_of-self c =
    let s = c.args.self.now in
    let h = ap (λ xs. task_full_of (next_item s.alone xs s.told)) (sym c.as_slice.ensures.value) ∙ sym c.next_task_full.ensures.exact ∙ c.in-Some.is in
    record {
      placed = placed_on s.past.1 s.task s.seen c.in-Some.at s.placed (seen_task_full s.past.0 s.past.1 s.task s.items.items s.told s.seen s.looks s.alone c.in-Some.at h s.left);
      left = left_task_full s.past.0 s.past.1 s.task s.items.items s.told s.seen s.looks s.alone c.in-Some.at h s.left;
    }

pub returns-in-Some : goal.returns-in-Some
returns-in-Some c =
    let s = c.args.self.now in
    let h = ap (λ xs. task_full_of (next_item s.alone xs s.told)) (sym c.as_slice.ensures.value) ∙ sym c.next_task_full.ensures.exact ∙ c.in-Some.is in
    spawn_told s.past.0 s.past.1 s.task s.items.items s.told s.seen s.looks s.alone c.args.start c.in-Some.at h s.left

pub make_task-requires-clause-next : goal.make_task-requires-clause-next
make_task-requires-clause-next c =
    let s = c.args.self.now in
    let h = ap (λ xs. task_full_of (next_item s.alone xs s.told)) (sym c.as_slice.ensures.value) ∙ sym c.next_task_full.ensures.exact ∙ c.in-None.is in
    h
