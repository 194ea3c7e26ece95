use Rattle.std.proofs.Common.{◌≡◌, drop}
use Rattle.jl_written.specs.Reads.{places_behind}
use Rattle.jl_written.proofs.reads.add_places.Given as goal

abbrev pub invariant-loop-place : goal.invariant-loop-place
invariant-loop-place l = places_behind (drop l.place-index l.places) l.state ≡ places_behind l.places l.initial.state
