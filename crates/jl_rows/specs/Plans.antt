-- What is to be done about a row for a key in a world that a task asked.
use Rattle.std.specs.Prelude.{ℕ, ◌≡◌, ◌<◌, List, [], ◌∷◌, ◌++◌, length}
use Rattle.jl_model.specs.declared.ty.Key.{Key}
use Rattle.jl_program.specs.declared.choice.Choice.{Choice}
use Rattle.jl_program.specs.declared.choice.Choice.TheVariants as C
use Rattle.jl_program.specs.declared.tree.Program.{Program}
use Rattle.jl_calculus.specs.declared.history.Event.{Event}
use Rattle.jl_calculus.specs.declared.history.Event.TheVariants as Ev
use Rattle.jl_calculus.specs.Kept.{Places}
use Rattle.jl_calculus.specs.Learnt.{IsNamed, IsUncovered}
use Rattle.jl_calculus.specs.Ranges.{rows_of, Covers, IsCovered}
use Rattle.jl_calculus.specs.World.{Selects}
use Rattle.jl_cache.specs.Finds.{HasRangeEnd}
use Rattle.jl_world.specs.declared.about.About.{About}
use Rattle.jl_world.specs.Adds.{IsNextFill}
use Rattle.jl_rows.specs.declared.plan.NewRow.{NewRow}
use Rattle.jl_rows.specs.declared.plan.Plan.{Plan}
use Rattle.jl_rows.specs.declared.plan.RowPlan.{RowPlan}
use Rattle.jl_rows.specs.declared.plan.RowPlan.TheVariants.{NoMethod, Covered, RowsFull, Link}

-- the places for keys and rows
abbrev pub places_of : About → Places
places_of about = record { keys = about.keys; rows = about.rows }

-- a row may be linked next for a key: it is right, it has this end, and it covers the world
pub record IsRowFor (P : Program) (es : List Event) (number : ℕ) (key : Key) (w : ℕ) (row : NewRow) : Type 0 where
  pub fill : IsNextFill P es number row.site row.first
  pub last : HasRangeEnd P es number row.first row.last
  pub covers : Covers P es key row.first w

-- where a method is chosen, a row of the key covers the world, or none does and all rows are in use, or none does and this one may be
-- linked
abbrev pub IsMethodPlan : About → List Event → ℕ → Key → ℕ → RowPlan → Type 0
IsMethodPlan about es number key w NoMethod = ⊥
IsMethodPlan about es number key w Covered = IsCovered about.program.value es number key w
IsMethodPlan about es number key w RowsFull = IsUncovered about.program.value es number w × (length (rows_of es) ≡ about.rows)
IsMethodPlan about es number key w (Link row) = IsUncovered about.program.value es number w × (length (rows_of es) < about.rows) × IsRowFor about.program.value es number key w row

abbrev pub IsRowPlan : About → List Event → ℕ → Key → ℕ → Choice → RowPlan → Type 0
IsRowPlan about es number key w (C.Method d) row = IsMethodPlan about es number key w row
IsRowPlan about es number key w C.None row = row ≡ NoMethod
IsRowPlan about es number key w (C.Ambiguous a b) row = row ≡ NoMethod

-- the plan for the key of this number in a world: the choice there, and what is to be done about a row
pub record IsPlanFor (about : About) (es : List Event) (number w : ℕ) (plan : Plan) : Type 0 where
  pub key : Key
  pub named : IsNamed es number key
  pub choice : Selects about.program.value es key.function key.types w plan.choice
  pub row : IsRowPlan about es number key w plan.choice plan.row

-- the events when what was planned about a row is done
abbrev pub with_row : List Event → ℕ → RowPlan → List Event
with_row es number NoMethod = es
with_row es number Covered = es
with_row es number RowsFull = es
with_row es number (Link row) = es ++ Ev.Fill number row.site row.first ∷ []
