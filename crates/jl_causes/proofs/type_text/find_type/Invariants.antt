use Rattle.std.proofs.Common.{◌≡◌, drop}
use Rattle.jl_causes.specs.KeyTexts.{names_of, place_of}
use Rattle.jl_causes.proofs.ReadLemmas.{later}
use Rattle.jl_causes.proofs.type_text.find_type.Given as goal

abbrev pub invariant-loop-number : goal.invariant-loop-number
invariant-loop-number l = later l.number (place_of (drop l.number (names_of l.table)) l.name) ≡ place_of (names_of l.table) l.name
