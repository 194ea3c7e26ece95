use Rattle.jl_report.proofs.FamilyLemmas.{within, one_more}
use Rattle.jl_report.proofs.family.gather.Goals as goal

pub note-requires : goal.note-requires
note-requires c =
    within c.args.events.now c.requires c.loop-event.event-index c.event-item.result c.loop-event.family.outputs.items c.loop-event.family.children.items
    c.loop-event-test.true c.event-item.is c.loop-event.invariant

pub loop-event-preserved : goal.loop-event-preserved
loop-event-preserved c =
    one_more c.args.events.now c.requires c.loop-event.event-index c.event-item.result c.loop-event.family.outputs.items c.loop-event.family.children.items
    c.loop-event-test.true c.event-item.is c.loop-event.invariant c.note.new.self.outputs.items c.note.new.self.children.items
    c.in_ok-note.ensures.outputs c.in_ok-note.ensures.children
