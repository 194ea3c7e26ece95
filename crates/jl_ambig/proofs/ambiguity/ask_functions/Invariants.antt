use Rattle.std.proofs.Common.{◌≡◌, ◌++◌, List}
use Rattle.jl_calculus.specs.declared.history.Event.{Event}
use Rattle.jl_calculus.specs.World.{changes}
use Rattle.jl_ambig.specs.Asked.{Probe, probes_up_to, AreFound}
use Rattle.jl_ambig.proofs.ambiguity.ask_functions.Given as goal

abbrev pub invariant-loop-function : goal.invariant-loop-function
invariant-loop-function l =
    (es : List Event) (done : List Probe) → changes es ≡ l.made.1 → AreFound l.made.0 es done l.fn.pairs.items → AreFound l.made.0 es (done ++ probes_up_to l.function l.lists) l.pairs.items
