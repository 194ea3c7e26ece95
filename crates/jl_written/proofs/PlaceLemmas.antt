-- The first of several names, by the table and by the list.
use Rattle.std.proofs.Common.{◌≡◌, ap, ℕ, ◌+◌, cond, List, [], ◌∷◌, Some, refl}
use Rattle.jl_program.specs.Names.{same_text}
use Rattle.jl_names.specs.Numbers.{number_in, with_places}
use Rattle.jl_written.specs.Meaning.{place_from, place_of}

place_in : (i : ℕ) (ns : List (List ℕ)) (name : List ℕ) → number_in (with_places i ns) name ≡ place_from i ns name
place_in i [] name = refl
place_in i (n ∷ ns) name = ap (cond (same_text name n) (Some i)) (place_in (i + 1) ns name)

pub place_is : (ns : List (List ℕ)) (name : List ℕ) → number_in (with_places 0 ns) name ≡ place_of ns name
place_is ns name = place_in 0 ns name
