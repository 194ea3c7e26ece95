use Rattle.std.proofs.Common.{◌≡◌, take}
use Rattle.jl_calculus.specs.World.{changes, world_of}
use Rattle.jl_reflect.specs.Chosen.{AreChosenUpTo}
use Rattle.jl_reflect.proofs.choices.choices.Given as goal

abbrev pub invariant-loop-event : goal.invariant-loop-event
invariant-loop-event l =
    (l.changes ≡ (l.ready, changes (take l.event-index l.events))) × AreChosenUpTo l.ready l.events l.key (world_of (take l.event-index l.events)) l.all.items
