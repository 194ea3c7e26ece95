use Rattle.std.proofs.Common.{◌∙◌, ap, sym, arith}
use Rattle.jl_lead.specs.Items.{next_item, look_of}
use Rattle.jl_lead.proofs.Answering.{looked_on, looked_off, left_look, seen_look}
use Rattle.jl_lead.proofs.led.LedDispatcher.newest.Goals as goal

pub invariant_of-self : goal.invariant_of-self
invariant_of-self c =
    let s = c.args.self.now in
    let h = ap (λ xs. look_of (next_item s.alone xs s.told)) (sym c.as_slice.ensures.value) ∙ sym c.next_look.ensures.exact ∙ c.in-Some.is in
    record { placed = record { started = s.placed.started; seen_some = seen_look s.past.0 s.past.1 s.task s.items.items s.told s.seen s.looks s.alone c.in-Some.seen h s.left }; left = left_look s.past.0 s.past.1 s.task s.items.items s.told s.seen s.looks s.alone c.in-Some.seen h s.left }

pub returns-in-Some : goal.returns-in-Some
returns-in-Some c =
    let s = c.args.self.now in
    let h = ap (λ xs. look_of (next_item s.alone xs s.told)) (sym c.as_slice.ensures.value) ∙ sym c.next_look.ensures.exact ∙ c.in-Some.is in
    looked_on s.past.0 s.past.1 s.task s.items.items s.told s.seen s.looks s.alone c.in-Some.seen h s.left

pub invariant_of-self-in-None : goal.invariant_of-self-in-None
invariant_of-self-in-None c =
    let s = c.args.self.now in
    record { placed = record { started = s.placed.started; seen_some = omega (arith, c.len-length.ensures) }; left = λ l. c.len-length.ensures }

pub returns-in-None : goal.returns-in-None
returns-in-None c =
    let s = c.args.self.now in
    let h = ap (λ xs. look_of (next_item s.alone xs s.told)) (sym c.as_slice.ensures.value) ∙ sym c.next_look.ensures.exact ∙ c.in-None.is in
    looked_off s.past.0 s.past.1 s.task s.items.items s.told s.seen s.looks s.alone c.world-world.result c.len-length.result h s.placed.seen_some c.world-world.ensures.exact c.len-length.ensures
