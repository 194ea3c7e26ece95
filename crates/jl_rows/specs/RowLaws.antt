-- Laws of rows and of what they keep. Each is the contract of a function of the module `laws`.
use Rattle.std.specs.Prelude.{ℕ, ◌≡◌, ◌≤◌, List, [], ◌∷◌, ◌++◌, length}
use Rattle.jl_model.specs.declared.ty.Key.{Key}
use Rattle.jl_model.specs.declared.ty.Ty.{Ty}
use Rattle.jl_program.specs.declared.choice.Choice.{Choice}
use Rattle.jl_program.specs.declared.choice.Choice.TheVariants as C
use Rattle.jl_program.specs.declared.tree.Program.{Program}
use Rattle.jl_program.specs.Valid.{IsValid}
use Rattle.jl_calculus.specs.declared.history.Event.{Event}
use Rattle.jl_calculus.specs.declared.history.Event.TheVariants as Ev
use Rattle.jl_calculus.specs.Kept.{Places, IsKeptFor}
use Rattle.jl_calculus.specs.Learnt.{IsNamed, IsChosen}
use Rattle.jl_calculus.specs.Legal.{IsKeyOf, MayStand}
use Rattle.jl_calculus.specs.Ranges.{keys_of, rows_of, IsCovered}
use Rattle.jl_calculus.specs.World.{world_of, Selects}
use Rattle.jl_world.specs.declared.about.About.{About}
use Rattle.jl_rows.specs.declared.plan.NewRow.{NewRow}
use Rattle.jl_rows.specs.declared.plan.Plan.{Plan}
use Rattle.jl_rows.specs.Open.{IsOpenOf}
use Rattle.jl_rows.specs.Plans.{IsPlanFor, IsRowFor, places_of, with_row}

-- at most one row of a key has no end
abbrev pub OneOpenRow : Type 0
OneOpenRow = (P : Program) (es : List Event) → MayStand P es → (number r s : ℕ) → IsOpenOf P es number r → IsOpenOf P es number s → r ≡ s

-- a row that was linked as planned for a key of a valid program covers the world, and tells the choice there
abbrev pub LinkedIsChosen : Type 0
LinkedIsChosen =
    (P : Program) → IsValid P → (es : List Event) (number w : ℕ) (key : Key) (row : NewRow) → IsKeyOf P key → w ≤ world_of es → IsNamed es number key → IsRowFor P es number key w row
    → IsChosen P (es ++ Ev.Fill number row.site row.first ∷ []) number w row.site

-- a call in a world that is there is kept where all key places are in use, and where all rows are
abbrev pub FullIsKept : Type 0
FullIsKept =
    (P : Program) (es : List Event) (room : Places) (f : ℕ) (ts : List Ty) (w : ℕ) → w ≤ world_of es → (room.keys ≤ length (keys_of es)) → IsKeptFor P es room f ts w

abbrev pub FullRowsAreKept : Type 0
FullRowsAreKept =
    (P : Program) (es : List Event) (room : Places) (f : ℕ) (ts : List Ty) (w : ℕ) → w ≤ world_of es → (room.rows ≤ length (rows_of es)) → IsKeptFor P es room f ts w

-- it is kept where its key is named and a row of the key covers the world
abbrev pub CoveredIsKept : Type 0
CoveredIsKept =
    (P : Program) (es : List Event) (room : Places) (number w : ℕ) (key : Key) → w ≤ world_of es → IsNamed es number key → IsCovered P es number key w
    → IsKeptFor P es room key.function key.types w

-- and where its key is named and a search found a row
abbrev pub ChosenIsKept : Type 0
ChosenIsKept =
    (P : Program) (es : List Event) (room : Places) (number w site : ℕ) (key : Key) → IsNamed es number key → IsChosen P es number w site
    → IsKeptFor P es room key.function key.types w

-- and where its key is named and no method is chosen
abbrev pub NoMethodIsKept : Type 0
NoMethodIsKept =
    (P : Program) (es : List Event) (room : Places) (number w : ℕ) (key : Key) (c : Choice) → w ≤ world_of es → IsNamed es number key
    → Selects P es key.function key.types w c → ((d : ℕ) → c ≡ C.Method d → ⊥) → IsKeptFor P es room key.function key.types w

-- so a call for which a plan was made, for a key of a valid program, is kept when what was planned is done
abbrev pub PlannedIsKept : Type 0
PlannedIsKept =
    (about : About) → IsValid about.program.value → (es : List Event) (number w : ℕ) (plan : Plan) → w ≤ world_of es → (made : IsPlanFor about es number w plan) → IsKeyOf about.program.value made.key
    → IsKeptFor about.program.value (with_row es number plan.row) (places_of about) made.key.function made.key.types w
