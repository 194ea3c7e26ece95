-- Keys with their numbers, as a task has met them.
use Rattle.std.specs.Prelude.{◌≡◌, ℕ, List, slice_get, Some}
use Rattle.jl_model.specs.declared.ty.Key.{Key}
use Rattle.jl_calculus.specs.declared.history.Event.{Event}
use Rattle.jl_calculus.specs.Learnt.{IsNamed}

-- a key stands there with this number
abbrev pub IsNumbered : List (Key × ℕ) → Key → ℕ → Type 0
IsNumbered xs key number = (i : ℕ) × (slice_get xs i ≡ Some (key, number))

-- each key has its number among the events
abbrev pub AreNamed : List Event → List (Key × ℕ) → Type 0
AreNamed es xs = (i : ℕ) (key : Key) (number : ℕ) → slice_get xs i ≡ Some (key, number) → IsNamed es number key
