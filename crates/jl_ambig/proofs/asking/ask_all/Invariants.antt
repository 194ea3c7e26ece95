use Rattle.std.proofs.Common.{ℕ, ◌≡◌, ◌++◌, List, length, take}
use Rattle.std.specs.List.{All}
use Rattle.jl_calculus.specs.declared.history.Event.{Event}
use Rattle.jl_ambig.specs.Asked.{AreKnown, AreAsked, Probe, probes_of, AreFound}
use Rattle.jl_ambig.proofs.asking.ask_all.Given as goal

abbrev pub invariant-loop-types : goal.invariant-loop-types
invariant-loop-types l = record {
  known : AreKnown l.ready l.dels l.known.items;
  found : (es : List Event) (f n : ℕ) (done : List Probe) → All (λ ts. length ts ≡ n) l.lists → AreAsked l.ready es f n l.defs l.dels → AreFound l.ready es done l.fn.pairs.items
      → AreFound l.ready es (done ++ probes_of f (take l.types-index l.lists)) l.pairs.items;
}
