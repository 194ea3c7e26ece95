-- What the answers of a book mean.
use Rattle.std.specs.Prelude.{ℕ, ◌≡◌, ◌<◌, ◌≤◌, ◌⊎◌, List, [], ◌∷◌, ◌++◌, length}
use Rattle.std.specs.List.{Contains}
use Rattle.jl_model.specs.declared.ty.Key.{Key}
use Rattle.jl_calculus.specs.declared.history.Event.{Event}
use Rattle.jl_calculus.specs.declared.history.Event.TheVariants as Ev
use Rattle.jl_calculus.specs.Ranges.{keys_of, rows_of}
use Rattle.jl_rows.specs.declared.plan.Plan.{Plan}
use Rattle.jl_rows.specs.declared.plan.RowPlan.{RowPlan}
use Rattle.jl_rows.specs.declared.plan.RowPlan.TheVariants as P
use Rattle.jl_rows.specs.Plans.{IsPlanFor, with_row}
use Rattle.jl_cache.specs.Finds.{HasRangeEnd}
use Rattle.jl_world.specs.Adds.{IsNextFill}
use Rattle.jl_world.specs.declared.about.About.{About}
use Rattle.jl_book.specs.declared.resolved.Resolved.{Resolved}
use Rattle.jl_book.specs.declared.resolved.RowMade.{RowMade}
use Rattle.jl_book.specs.declared.resolved.RowMade.TheVariants as R

-- the history had the key, or it has it since this call
abbrev pub IsAddedOnce : List Event → Key → List Event → Type 0
IsAddedOnce old key new = (Contains (keys_of old) key × (new ≡ old)) ⊎ ((Contains (keys_of old) key → ⊥) × (new ≡ old ++ Ev.Key key ∷ []))

-- the history does not have the key, and all places for keys are in use
pub record AreKeysFull (about : About) (es : List Event) (key : Key) : Type 0 where
  pub new : Contains (keys_of es) key → ⊥
  pub full : about.keys ≤ length (keys_of es)

-- what is told of a row where this was planned
abbrev pub made_by : List Event → RowPlan → RowMade
made_by es P.NoMethod = R.NoMethod
made_by es P.Covered = R.Covered
made_by es P.RowsFull = R.RowsFull
made_by es (P.Link row) = R.Linked (length (rows_of es))

-- what was planned can be done: the row that is to be linked may come next, has its end, and there is a place for it
abbrev pub MayBeDone : About → List Event → ℕ → RowPlan → Type 0
MayBeDone about es number P.NoMethod = Unit {0}
MayBeDone about es number P.Covered = Unit {0}
MayBeDone about es number P.RowsFull = Unit {0}
MayBeDone about es number (P.Link row) =
    IsNextFill about.program.value es number row.site row.first × HasRangeEnd about.program.value es number row.first row.last × (length (rows_of es) < about.rows)

-- a choice for the key of this number in a world, and what became of a row: what was planned is done, and nothing else
pub record IsResolved (about : About) (old : List Event) (number w : ℕ) (r : Resolved) (new : List Event) : Type 0 where
  pub plan : Plan
  pub right : IsPlanFor about old number w plan
  pub choice : r.choice ≡ plan.choice
  pub row : r.row ≡ made_by old plan.row
  pub added : new ≡ with_row old number plan.row
