use Rattle.std.proofs.Common.{◌≡◌, drop, map}
use Rattle.jl_written.specs.Meaning.{place_from}
use Rattle.jl_resolve_forms.proofs.functions.place_of_word.Given as goal

abbrev pub invariant-loop-at : goal.invariant-loop-at
invariant-loop-at l = place_from l.at (map (λ w. w.now) (drop l.at l.words)) l.name ≡ place_from 0 (map (λ w. w.now) l.words) l.name
