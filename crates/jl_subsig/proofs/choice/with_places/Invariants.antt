use Rattle.std.proofs.Common.{◌≡◌, ◌++◌, drop}
use Rattle.jl_subsig.specs.Decide.{ranks}
use Rattle.jl_subsig.proofs.choice.with_places.Given as goal

abbrev pub invariant-loop-place : goal.invariant-loop-place
invariant-loop-place l = l.items.items ++ ranks l.place (drop l.place l.methods) ≡ ranks 0 l.methods
