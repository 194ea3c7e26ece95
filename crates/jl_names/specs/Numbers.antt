-- Names with numbers, and the first number of a name.
use Rattle.std.specs.Prelude.{ℕ, ◌+◌, if◌then◌else◌, List, [], ◌∷◌, ◌++◌, map, Option, Some, None, is_some}
use Rattle.jl_program.specs.Names.{same_text}
use Rattle.jl_grammar.specs.declared.tree.Name.{Name}
use Rattle.jl_model.specs.declared.ty.Decl.{Decl}

-- a name with a number
abbrev pub Numbered : Type 0
Numbered = List ℕ × ℕ

-- the first number of a name
abbrev pub number_in : List Numbered → List ℕ → Option ℕ
number_in [] name = None
number_in (e ∷ es) name = if same_text name e.0 then Some e.1 else number_in es name

-- one more name, unless it has a number
abbrev pub with_number : List Numbered → Numbered → List Numbered
with_number es e = if is_some (number_in es e.0) then es else es ++ e ∷ []

-- another number for a name that has one
abbrev pub renumber : List Numbered → Numbered → List Numbered
renumber [] e = []
renumber (x ∷ xs) e = if same_text e.0 x.0 then (x.0, e.1) ∷ xs else x ∷ renumber xs e

-- one more name, or another number for one that has a number
abbrev pub with_newer : List Numbered → Numbered → List Numbered
with_newer es e = if is_some (number_in es e.0) then renumber es e else es ++ e ∷ []

-- names one after another, behind others
abbrev pub first_numbers_after : List Numbered → List Numbered → List Numbered
first_numbers_after es [] = es
first_numbers_after es (x ∷ xs) = first_numbers_after (with_number es x) xs

-- each name with its first number
abbrev pub first_numbers : List Numbered → List Numbered
first_numbers xs = first_numbers_after [] xs

-- names with their places, from i on
abbrev pub with_places : ℕ → List (List ℕ) → List Numbered
with_places i [] = []
with_places i (n ∷ ns) = (n, i) ∷ with_places (i + 1) ns

-- names where they stand
abbrev pub with_marks_of : List Name → List Numbered
with_marks_of ns = map (λ (n : Name). (n.bytes, n.at)) ns

-- the names of declarations
abbrev pub names_of : List Decl → List (List ℕ)
names_of ds = map (λ (d : Decl). d.name) ds

-- the slots that have names, from number i on
abbrev pub named_slots : ℕ → List (Option (List ℕ)) → List Numbered
named_slots i [] = []
named_slots i (None ∷ ss) = named_slots (i + 1) ss
named_slots i (Some n ∷ ss) = (n, i) ∷ named_slots (i + 1) ss

-- how many slots have names
abbrev pub count_named : List (Option (List ℕ)) → ℕ
count_named [] = 0
count_named (None ∷ ss) = count_named ss
count_named (Some n ∷ ss) = count_named ss + 1
