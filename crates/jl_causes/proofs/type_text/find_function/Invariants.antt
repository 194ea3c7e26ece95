use Rattle.std.proofs.Common.{◌≡◌, drop}
use Rattle.jl_causes.specs.KeyTexts.{place_of}
use Rattle.jl_causes.proofs.ReadLemmas.{later}
use Rattle.jl_causes.proofs.type_text.find_function.Given as goal

abbrev pub invariant-loop-place : goal.invariant-loop-place
invariant-loop-place l = later l.place (place_of (drop l.place l.program.functions) l.name) ≡ place_of l.program.functions l.name
