use Rattle.std.proofs.Common.{take}
use Rattle.jl_report.specs.Family.{IsFamilyOf}
use Rattle.jl_report.proofs.family.gather.Given as goal

abbrev pub invariant-loop-event : goal.invariant-loop-event
invariant-loop-event l = IsFamilyOf (take l.event-index l.events) l.family.outputs.items l.family.children.items
