use Rattle.std.specs.Prelude.{ℕ, ◌+◌, List, [], ◌∷◌, map, max, ◌≤◌}
use Rattle.jl_model.specs.declared.limits.TheConstants.{MOST_VALUE_NODES, MOST_VALUE_DEPTH}
use Rattle.jl_program.specs.declared.datum.Datum.{Datum}
use Rattle.jl_program.specs.declared.datum.Datum.TheOpen.{Datum-F, Tuple, Struct}
use Rattle.jl_program.specs.declared.datum.Datum.TheFolds.{fold-Datum}

-- the sum of a list
abbrev pub total : List ℕ → ℕ
total [] = 0
total (n ∷ ns) = n + total ns

-- the greatest of a list, or 0
abbrev pub greatest : List ℕ → ℕ
greatest [] = 0
greatest (n ∷ ns) = max n (greatest ns)

abbrev pub nodes_step : Datum-F ℕ → ℕ
nodes_step (Tuple _ ns) = total ns + 1
nodes_step (Struct _ ns) = total ns + 1
nodes_step _ = 1

abbrev pub nodes : Datum → ℕ
nodes = fold-Datum ℕ nodes_step

abbrev pub nodes_all : List Datum → ℕ
nodes_all ts = total (map nodes ts)

abbrev pub depth_step : Datum-F ℕ → ℕ
depth_step (Tuple _ ns) = greatest ns + 1
depth_step (Struct _ ns) = greatest ns + 1
depth_step _ = 1

abbrev pub depth : Datum → ℕ
depth = fold-Datum ℕ depth_step

abbrev pub depth_all : List Datum → ℕ
depth_all ts = greatest (map depth ts)

-- at most a million nodes, and at most two thousand deep
abbrev pub IsWithinLimits : Datum → Type 0
IsWithinLimits d = (nodes d ≤ MOST_VALUE_NODES) × (depth d ≤ MOST_VALUE_DEPTH)
