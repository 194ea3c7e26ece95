use Rattle.jl_program.specs.declared.datum.Datum.{Datum, out-Datum}
use Rattle.jl_program.specs.declared.datum.Datum.TheOpen.{Datum-F}
use Rattle.jl_program.specs.declared.datum.Datum.TheOpen as T
use Rattle.jl_program.specs.declared.datum.Datum.TheViews.{roll-Datum}
use Rattle.jl_program.specs.declared.value.Value.{Value}
use Rattle.jl_program.specs.declared.value.Value.TheVariants.{Int, Bool, Nothing, Task, Tuple, Struct}

-- the value, as contracts see it
abbrev pub datum : Value → Datum
datum (Int n) = roll-Datum (T.Int n)
datum (Bool b) = roll-Datum (T.Bool b)
datum Nothing = roll-Datum T.Nothing
datum (Task n) = roll-Datum (T.Task n)
datum (Tuple c) = roll-Datum (T.Tuple c.ty c.parts)
datum (Struct c) = roll-Datum (T.Struct c.ty c.parts)

-- the value of such data
abbrev pub value_of_layer : Datum-F Datum → Value
value_of_layer (T.Int n) = Int n
value_of_layer (T.Bool b) = Bool b
value_of_layer T.Nothing = Nothing
value_of_layer (T.Task n) = Task n
value_of_layer (T.Tuple t vs) = Tuple (record { ty = t; parts = vs })
value_of_layer (T.Struct t vs) = Struct (record { ty = t; parts = vs })

-- the value that a contract sees as this; `datum` gives it back
abbrev pub value_of : Datum → Value
value_of d = value_of_layer (out-Datum d)
