-- The board of a run's jobs: those that are ready, and those that wait for the end of a task.
use Rattle.std.specs.Prelude.{ℕ, Bool, List, [], ◌++◌, slice_get, Option, None, Some}
use Rattle.std.specs.List.{flat_map}
use Rattle.std.specs.Global.{Global}
use Rattle.std.specs.declared.collections.VecDeque.{VecDeque}

-- the jobs that are ready, in order; whether the board is closed; and for each task the jobs that wait for its end, in order, or
-- nothing where it has ended
pub record BoardOf (T : Type 0) : Type 0 where
  pub ready : List T
  pub closed : Bool
  pub waiting : List (Option (List T))

-- what waits for a task that has not ended
abbrev pub queued : {T : Type 0} → Option (VecDeque T Global) → Option (List T)
queued None = None
queued (Some jobs) = Some jobs.items

-- the list of a place, where there is one
abbrev pub list_in : {T : Type 0} → Option (Option (List T)) → Option (List T)
list_in None = None
list_in (Some place) = place

-- what waits for a task, and nothing where it has ended or is none of the board's
abbrev pub waiting_for : {T : Type 0} → BoardOf T → ℕ → Option (List T)
waiting_for b task = list_in (slice_get b.waiting task)

-- the jobs of a place
abbrev pub jobs_at : {T : Type 0} → Option (List T) → List T
jobs_at None = []
jobs_at (Some jobs) = jobs

-- all jobs, ready or not
abbrev pub jobs_of : {T : Type 0} → BoardOf T → List T
jobs_of b = b.ready ++ flat_map jobs_at b.waiting
