-- What a deque holds, by what was pushed to it and what each side has taken.
use Rattle.std.specs.Prelude.{◌≡◌, ℕ, Bool, true, false, List, [], ◌∷◌, ◌++◌, IsPermutation}
use mathlib.Core.Option.{some}
use lib.ListN.{get_elem?}
use Rattle.jl_steal.specs.declared.deque.Log.{Log}

module _ {T : Type 0} where
  -- a side of a deque
  abbrev pub log : Bool → List T → List T → Log T
  log works pushed taken = record { works = works; pushed = pushed; taken = taken }

  -- all that was taken, side by side
  abbrev pub taken_of : List (Log T) → List T
  taken_of [] = []
  taken_of (v ∷ vs) = v.taken ++ taken_of vs

  -- a thief knows a beginning of what was pushed
  abbrev pub IsThief : List T → Log T → Type 0
  IsThief pushed v = (v.works ≡ false) × (rest : List T) × (pushed ≡ v.pushed ++ rest)

  -- The first side is the worker's, and knows all that was pushed. That is what was taken, and then what the deque holds; and what was
  -- taken is, in some order, what the sides have taken
  abbrev pub InOrder : List T → List (Log T) → Type 0
  InOrder items [] = ⊥
  InOrder items (w ∷ vs) = (w.works ≡ true)
      × ((taken : List T) × (w.pushed ≡ taken ++ items) × IsPermutation taken (taken_of (w ∷ vs)))
      × ((port : ℕ) (v : Log T) → get_elem? vs port ≡ some v → IsThief w.pushed v)

  -- The values xs were pushed and not yet taken: all that was pushed before them was taken, by this side and by others
  abbrev pub TakesNext : Log T → List T → Log T → Type 0
  TakesNext v xs w = (before : List T) × (after : List T) × (others : List T)
      × (w.pushed ≡ before ++ xs ++ after) × IsPermutation before (v.taken ++ others)
      × (w.taken ≡ v.taken ++ xs) × (w.works ≡ v.works)

  -- the same by the worker, which learns nothing of what was pushed
  abbrev pub Pops : Log T → List T → Log T → Type 0
  Pops v xs w = TakesNext v xs w × (w.pushed ≡ v.pushed)
