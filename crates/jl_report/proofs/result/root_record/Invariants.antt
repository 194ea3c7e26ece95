use Rattle.std.proofs.Common.{◌≡◌, drop}
use Rattle.jl_calculus.specs.Past.{done_of}
use Rattle.jl_report.proofs.result.root_record.Given as goal

abbrev pub invariant-loop-event : goal.invariant-loop-event
invariant-loop-event l = done_of 0 l.events ≡ done_of 0 (drop l.event-index l.events)
