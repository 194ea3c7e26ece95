-- The task that a value is.
use Rattle.std.specs.Prelude.{ℕ, Option, None, Some}
use Rattle.jl_program.specs.declared.value.Value.{Value}
use Rattle.jl_program.specs.declared.value.Value.TheVariants as V

abbrev pub task_of : Value → Option ℕ
task_of (V.Task n) = Some n
task_of (V.Int n) = None
task_of (V.Bool b) = None
task_of V.Nothing = None
task_of (V.Tuple c) = None
task_of (V.Struct c) = None
