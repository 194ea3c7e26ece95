-- What a task sees where it starts, as values that are open.
use Rattle.std.specs.Prelude.{◌≡◌, List, ◌++◌, map}
use Rattle.jl_program.specs.declared.datum.Datum.{Datum}
use Rattle.jl_program.specs.declared.value.Value.{Value}
use Rattle.jl_program.specs.Meaning.{datum}
use Rattle.jl_frames.specs.Held.{Held, with_open}

-- such values are open above those that were
pub record Opened (env : List Datum) (old new : Held) : Type 0 where
  pub values : List Value
  pub mean : map datum values ≡ env
  pub opened : new ≡ with_open old (old.open_values ++ values)
