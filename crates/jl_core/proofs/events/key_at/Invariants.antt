use Rattle.std.proofs.Common.{◌≡◌, drop, slice_get}
use Rattle.jl_calculus.specs.Ranges.{keys_of}
use Rattle.jl_core.proofs.events.key_at.Given as goal

abbrev pub invariant-loop-event : goal.invariant-loop-event
invariant-loop-event l = slice_get (keys_of (drop l.event-index l.events)) l.left ≡ slice_get (keys_of l.events) l.number
