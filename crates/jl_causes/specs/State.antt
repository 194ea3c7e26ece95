-- What the judge of the first round knows of the events so far.
use Rattle.std.specs.Prelude.{ℕ, ◌≡◌, ◌<◌, false, List, length, map, get_or}
use Rattle.std.specs.List.{Contains}
use Rattle.jl_model.specs.declared.limits.TheConstants.{MOST_TASKS}
use Rattle.jl_program.specs.declared.tree.Program.{Program}
use Rattle.jl_calculus.specs.declared.history.Event.{Event}
use Rattle.jl_calculus.specs.Ranges.{CacheRow, keys_of, rows_of}
use Rattle.jl_calculus.specs.World.{changes}
use Rattle.jl_methods.specs.Indexed.{IsIndexOf}
use Rattle.jl_report.specs.declared.entry.Entry.{Entry}
use Rattle.jl_causes.specs.declared.rows.Rows.{Rows}
use Rattle.jl_causes.specs.declared.judge.Judge.{Judge}
use Rattle.jl_causes.specs.Causes.{has_end}
use Rattle.jl_causes.specs.Stands.{AreStanding}
use Rattle.jl_causes.specs.Tables.{ArePlaces, AreTasks}

-- some row of a key begins in this world
abbrev pub HasRow : List Event → ℕ → ℕ → Type 0
HasRow es key first = (row : CacheRow) × Contains (rows_of es) row × (row.key ≡ key) × (row.first ≡ first)

-- the index of the events, how many keys they have, the first world of each row, and what stands
pub record AreRows (P : Program) (es : List Event) (r : Rows) : Type 0 where
  pub indexed : IsIndexOf P es r.index
  pub counted : r.keys ≡ length (keys_of es)
  pub beginnings : r.firsts.items ≡ map (λ (row : CacheRow). row.first) (rows_of es)
  pub standing : AreStanding P (changes es) r.standing

-- all of it; and which tasks end somewhere in the text
pub record IsJudgeOf (P : Program) (all : List Entry) (es : List Event) (j : Judge) : Type 0 where
  pub rows : AreRows P es j.rows
  pub tasks : AreTasks es j.tasks
  pub places : ArePlaces es j.places
  pub many : length j.finished.items ≡ MOST_TASKS
  pub each : (task : ℕ) → task < MOST_TASKS → get_or j.finished.items task false ≡ has_end all task
