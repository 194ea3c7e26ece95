-- Where a task of the first spawn place starts, at which nothing is visible.
use Rattle.std.specs.Prelude.{[]}
use Rattle.jl_program.specs.Prelude.{prelude_count}
use Rattle.jl_program.specs.declared.tree.Start.{Start}

abbrev pub first_start : Start
first_start = record { spawn = 0; env = []; bindings = []; world = prelude_count }
