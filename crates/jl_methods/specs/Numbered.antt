-- Lists by number, each of which grows at its end.
use Rattle.std.specs.Prelude.{ℕ, ◌+◌, ◌≤◌, List, [], ◌∷◌, ◌++◌, get_or, set}

-- the list of a number, which is empty where there is none
abbrev pub nth : {T : Type 0} → List (List T) → ℕ → List T
nth ls n = get_or ls n []

-- one more at the end of the list of a number
abbrev pub put_at : {T : Type 0} → List (List T) → ℕ → T → List (List T)
put_at ls n x = set ls n (nth ls n ++ x ∷ [])

-- the same at the end of each of these
abbrev pub put_each : {T : Type 0} → List (List T) → List ℕ → T → List (List T)
put_each ls [] x = ls
put_each ls (n ∷ ns) x = put_each (put_at ls n x) ns x

-- the list of a number changed
abbrev pub change_at : {T : Type 0} → (List T → List T) → List (List T) → ℕ → List (List T)
change_at f ls n = set ls n (f (nth ls n))

-- each is above those before it, and the first is this number at least
abbrev pub RisesFrom : ℕ → List ℕ → Type 0
RisesFrom low [] = Unit {0}
RisesFrom low (n ∷ ns) = (low ≤ n) × RisesFrom (n + 1) ns
