-- A reading as the code has it: its point apart from the rest.
use Rattle.std.specs.Prelude.{Option, Some, None}
use Rattle.jl_grammar.specs.declared.state.Point.{Point}
use Rattle.jl_grammar.specs.declared.state.Reading.{Reading}
use Rattle.jl_grammar.specs.declared.state.State.{State}

-- the state at this point; none where there is no point
abbrev pub state_at : Option Point → Reading → Option State
state_at None r = None
state_at (Some p) r = Some (record { point = p; stack = r.stack; script = r.script })
