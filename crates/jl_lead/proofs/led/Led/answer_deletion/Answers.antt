use Rattle.std.proofs.Common.{◌∙◌, ap, sym}
use Rattle.jl_lead.specs.Items.{next_item, world_full_of}
use Rattle.jl_lead.proofs.Answering.{seen_world_full, left_world_full}
use Rattle.jl_lead.proofs.Whole.{placed_on, deletion_told}
use Rattle.jl_lead.proofs.led.Led.answer_deletion.Goals as goal

pub invariant_of-self : goal.invariant_of-self
invariant_of-self c =
    let s = c.args.self.now in
    let h = ap (λ xs. world_full_of (next_item s.alone xs s.told)) (sym c.as_slice.ensures.value) ∙ sym c.next_world_full.ensures.exact ∙ c.in-Some.is in
    record {
      placed = placed_on s.past.1 s.task s.seen c.in-Some.at s.placed (seen_world_full s.past.0 s.past.1 s.task s.items.items s.told s.seen s.looks s.alone c.in-Some.at h s.left);
      left = left_world_full s.past.0 s.past.1 s.task s.items.items s.told s.seen s.looks s.alone c.in-Some.at h s.left;
    }

pub returns-in-Some : goal.returns-in-Some
returns-in-Some c =
    let s = c.args.self.now in
    let h = ap (λ xs. world_full_of (next_item s.alone xs s.told)) (sym c.as_slice.ensures.value) ∙ sym c.next_world_full.ensures.exact ∙ c.in-Some.is in
    deletion_told s.past.0 s.past.1 s.task s.items.items s.told s.seen s.looks s.alone c.args.place c.in-Some.at h s.left

pub find_deletion-requires-clause-next : goal.find_deletion-requires-clause-next
find_deletion-requires-clause-next c =
    let s = c.args.self.now in
    let h = ap (λ xs. world_full_of (next_item s.alone xs s.told)) (sym c.as_slice.ensures.value) ∙ sym c.next_world_full.ensures.exact ∙ c.in-None.is in
    h
