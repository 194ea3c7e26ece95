use Rattle.std.proofs.Common.{◌≡◌, drop}
use Rattle.jl_calculus.specs.Past.{done_of}
use Rattle.jl_core.proofs.events.done_of.Given as goal

abbrev pub invariant-loop-event : goal.invariant-loop-event
invariant-loop-event l = done_of l.of (drop l.event-index l.events) ≡ done_of l.of l.events
