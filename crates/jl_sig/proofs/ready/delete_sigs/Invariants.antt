use Rattle.std.proofs.Common.{◌≡◌, ◌++◌, drop, map, All}
use Rattle.jl_sig.specs.Prepared.{IsSigOf}
use Rattle.jl_sig.specs.Readied.{place_sigs}
use Rattle.jl_sig.specs.SigParts.{written_of}
use Rattle.jl_sig.proofs.ready.delete_sigs.Given as goal

abbrev pub invariant-loop-place : goal.invariant-loop-place
invariant-loop-place l = (map written_of l.sigs.items ++ place_sigs (drop l.place-index l.places) ≡ place_sigs l.places) × All (IsSigOf l.table) l.sigs.items
