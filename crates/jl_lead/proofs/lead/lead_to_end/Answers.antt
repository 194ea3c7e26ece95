use Rattle.jl_lead.proofs.Arriving.{none_left, some_left, away_no_run, ended_no_run, ended_run, ended_valid}
use Rattle.jl_lead.proofs.lead.lead_to_end.Goals as goal

pub returns-then-more-clause-run : goal.returns-then-more-clause-run
returns-then-more-clause-run g c =
    let d = c.lead.new.led in
    let h = rw c.if-ended.true at c.in-Ok.ensures in
    ended_no_run c.args.ready.now c.args.machine c.args.led.now c.lead.new.machine d h.0 h.1 (some_left c.has_items-more.result d.told d.items.items c.if-more.true c.has_items-more.ensures)

pub record-requires : goal.record-requires
record-requires g c = let h = rw c.if-ended.true at c.in-Ok.ensures in h.1

pub returns-then-ended-clause-run : goal.returns-then-ended-clause-run
returns-then-ended-clause-run g c =
    let d = c.lead.new.led in
    let h = rw c.if-ended.true at c.in-Ok.ensures in
    ended_run c.args.ready.now c.args.machine c.args.led.now c.lead.new.machine d h.0 h.1 c.in_ok-record-in-Ok.record c.in_ok-record-in-Ok.ensures
    (none_left c.has_items-more.result d.told d.items.items c.if-more.false c.has_items-more.ensures)

pub returns-else-ended-clause-run : goal.returns-else-ended-clause-run
returns-else-ended-clause-run g c =
    let h = rw c.if-ended.false at c.in-Ok.ensures in
    away_no_run c.args.ready.now c.args.machine c.args.led.now c.lead.new.machine c.lead.new.led h

pub returns-then-ended-clause-valid : goal.returns-then-ended-clause-valid
returns-then-ended-clause-valid g c =
    let h = rw c.if-ended.true at c.in-Ok.ensures in
    ended_valid c.args.ready.now c.args.machine c.args.led.now c.lead.new.machine c.lead.new.led h.0 h.1 c.in_ok-record-in-Ok.record c.in_ok-record-in-Ok.ensures

pub returns-then-ended-clause-kept : goal.returns-then-ended-clause-kept
returns-then-ended-clause-kept g c = let h = rw c.if-ended.true at c.in-Ok.ensures in (h.0.stays.program, h.0.events)
