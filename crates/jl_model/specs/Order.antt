-- The order of terms, by which the members of a union in normal form stand.
use Rattle.std.specs.Prelude.{ℕ, List, [], ◌∷◌, length}
use Rattle.std.specs.List.{flat_map}
use Rattle.std.specs.Ordering.{nat_cmp}
use Rattle.std.specs.Cmp.Lexicographic.{slice_cmp}
use Rattle.std.specs.declared.cmp.Ordering.{Ordering}
use Rattle.jl_model.specs.declared.ty.Ty.{Ty}
use Rattle.jl_model.specs.declared.ty.Ty.TheOpen.{Ty-F, Any, Union, Tuple, Nominal, Var}
use Rattle.jl_model.specs.declared.ty.Ty.TheFolds.{fold-Ty}

-- how many there are, and then each from left to right
abbrev pub spell_all : List (List ℕ) → List ℕ
spell_all ss = length ss ∷ flat_map (λ s. s) ss

abbrev pub spell_step : Ty-F (List ℕ) → List ℕ
spell_step (Union []) = 0 ∷ []
spell_step Any = 1 ∷ []
spell_step (Nominal k ss) = 2 ∷ k ∷ spell_all ss
spell_step (Tuple ss) = 3 ∷ spell_all ss
spell_step (Union (s ∷ ss)) = 4 ∷ spell_all (s ∷ ss)
spell_step (Var v) = 5 ∷ v ∷ []

-- a type spelled by numbers: its form, its number, how many parts it has, and the parts
abbrev pub spelled : Ty → List ℕ
spelled = fold-Ty (List ℕ) spell_step

-- the empty union, `Any`, nominal types by number and then arguments, tuples by length and then parts, unions by length
-- and then members: the order of their spellings as in a dictionary
abbrev pub term_cmp : Ty → Ty → Ordering
term_cmp a b = slice_cmp nat_cmp (spelled a) (spelled b)
