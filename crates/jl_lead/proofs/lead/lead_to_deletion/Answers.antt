use Rattle.jl_lead.proofs.Arriving.{none_left, some_left, ended_deletion, away_no_deletion, looked_deletion, looked_deleted}
use Rattle.jl_lead.proofs.lead.lead_to_deletion.Goals as goal

pub returns-then-ended-clause-exact : goal.returns-then-ended-clause-exact
returns-then-ended-clause-exact g c =
    let h = rw c.if-ended.true at c.in_ok-ended.ensures in
    ended_deletion c.args.ready.now c.args.machine.now c.args.led.now c.lead.new.machine c.lead.new.led h.0 h.1 c.args.deletion

pub returns-then-more-clause-exact : goal.returns-then-more-clause-exact
returns-then-more-clause-exact g c =
    let d = c.lead.new.led in
    let h = rw c.if-ended.false at c.in_ok-ended.ensures in
    away_no_deletion c.args.ready.now c.args.machine.now c.args.led.now c.lead.new.machine d h c.args.deletion
    (some_left c.has_items-more.result d.told d.items.items c.if-more.true c.has_items-more.ensures)

pub returns-clause-exact : goal.returns-clause-exact
returns-clause-exact g c =
    let d = c.lead.new.led in
    let h = rw c.if-ended.false at c.in_ok-ended.ensures in
    looked_deletion c.args.ready.now c.args.machine.now c.args.led.now c.lead.new.machine d h c.events.result.now c.len-place.result c.events.ensures c.len-place.ensures
    (none_left c.has_items-more.result d.told d.items.items c.if-more.false c.has_items-more.ensures) c.args.deletion c.is_deletion-made.result c.requires.room c.is_deletion-made.ensures

pub returns-clause-made : goal.returns-clause-made
returns-clause-made g c =
    let d = c.lead.new.led in
    let h = rw c.if-ended.false at c.in_ok-ended.ensures in
    looked_deleted c.args.ready.now c.args.machine.now c.args.led.now c.lead.new.machine d h c.events.result.now c.len-place.result c.events.ensures c.len-place.ensures
    (none_left c.has_items-more.result d.told d.items.items c.if-more.false c.has_items-more.ensures) c.args.deletion c.is_deletion-made.result c.is_deletion-made.ensures
