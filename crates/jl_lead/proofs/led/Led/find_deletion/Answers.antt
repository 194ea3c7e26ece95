use Rattle.std.proofs.Common.{◌∙◌, ap, sym}
use Rattle.jl_lead.specs.Items.{next_item, absent_of}
use Rattle.jl_lead.proofs.Answering.{seen_absent, left_absent}
use Rattle.jl_lead.proofs.Whole.{placed_on, deletion_absent}
use Rattle.jl_lead.proofs.led.Led.find_deletion.Goals as goal

pub invariant_of-self : goal.invariant_of-self
invariant_of-self c =
    let s = c.args.self.now in
    let h = ap (λ xs. absent_of c.args.place (next_item s.alone xs s.told)) (sym c.as_slice.ensures.value) ∙ sym c.next_absent.ensures.exact ∙ c.in-Some.is in
    record {
      placed = placed_on s.past.1 s.task s.seen c.in-Some.at s.placed (seen_absent s.past.0 s.past.1 s.task s.items.items s.told s.seen s.looks s.alone c.args.place c.in-Some.at h s.left);
      left = left_absent s.past.0 s.past.1 s.task s.items.items s.told s.seen s.looks s.alone c.args.place c.in-Some.at h s.left;
    }

pub returns-in-Some : goal.returns-in-Some
returns-in-Some c =
    let s = c.args.self.now in
    let h = ap (λ xs. absent_of c.args.place (next_item s.alone xs s.told)) (sym c.as_slice.ensures.value) ∙ sym c.next_absent.ensures.exact ∙ c.in-Some.is in
    deletion_absent s.past.0 s.past.1 s.task s.items.items s.told s.seen s.looks s.alone c.args.place c.in-Some.at h s.left

pub make_deletion-requires-clause-there : goal.make_deletion-requires-clause-there
make_deletion-requires-clause-there c =
    let s = c.args.self.now in
    let h = ap (λ xs. absent_of c.args.place (next_item s.alone xs s.told)) (sym c.as_slice.ensures.value) ∙ sym c.next_absent.ensures.exact ∙ c.in-None.is in
    h
