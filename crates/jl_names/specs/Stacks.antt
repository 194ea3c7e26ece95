-- Names of which a later one hides an equal one before it.
use Rattle.std.specs.Prelude.{◌≡◌, ℕ, ◌+◌, if◌then◌else◌, List, [], ◌∷◌, ◌++◌, map, Option, Some, None}
use Rattle.std.specs.Option.{option_or}
use Rattle.jl_program.specs.Names.{same_text}
use Rattle.jl_names.specs.declared.stack.Stacked.{Stacked}
use Rattle.jl_names.specs.Numbers.{Numbered, number_in}

-- the last place of a name in names of which the first has place i
abbrev pub last_from : ℕ → List (List ℕ) → List ℕ → Option ℕ
last_from i [] name = None
last_from i (n ∷ ns) name = option_or (last_from (i + 1) ns name) (if same_text name n then Some i else None)

abbrev pub last_place : List (List ℕ) → List ℕ → Option ℕ
last_place ns name = last_from 0 ns name

-- for each name, behind others, the place of the one before it that it hides
abbrev pub hidden_after : List (List ℕ) → List (List ℕ) → List (Option ℕ)
hidden_after before [] = []
hidden_after before (n ∷ ns) = last_place before n ∷ hidden_after (before ++ n ∷ []) ns

abbrev pub texts_of : List Stacked → List (List ℕ)
texts_of xs = map (λ (x : Stacked). x.name) xs

abbrev pub hides_of : List Stacked → List (Option ℕ)
hides_of xs = map (λ (x : Stacked). x.hides) xs

-- each name knows what it hides, and each that stands in the list has the place of its last in the table
abbrev pub IsStack : List Stacked → List Numbered → Type 0
IsStack xs es = (hides_of xs ≡ hidden_after [] (texts_of xs)) × ((name : List ℕ) (place : ℕ) → last_place (texts_of xs) name ≡ Some place → number_in es name ≡ Some place)
