use Rattle.std.proofs.Common.{drop}
use Rattle.jl_task.specs.Skip.{skip_args}
use Rattle.jl_machine.specs.Lent.{now_of}
use Rattle.jl_machine.specs.Numbers.{PartsLeft}
use Rattle.jl_machine.proofs.task.Task.go_parts.Given as goal

abbrev pub invariant-loop-i : goal.invariant-loop-i
invariant-loop-i g l =
    PartsLeft (g.D.Dispatcher.knows l.with) l.expr (skip_args l.expr l.initial.self.now.frames.open_values l.parts (now_of l.initial.self.now)) l.initial.self (drop l.i l.parts) l.self
