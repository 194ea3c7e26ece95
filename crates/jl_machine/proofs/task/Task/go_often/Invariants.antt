use Rattle.std.proofs.Common.{◌≡◌}
use Rattle.jl_task.specs.Weight.{turns_left}
use Rattle.jl_machine.specs.Lent.{now_of, work_of}
use Rattle.jl_machine.specs.Steps.{GoesOn}
use Rattle.jl_machine.proofs.task.Task.go_often.Given as goal

abbrev pub invariant-often : goal.invariant-often
invariant-often g l = record {
  on : GoesOn (g.D.Dispatcher.knows l.with) l.first l.initial.self l.work l.self;
  types : l.memo ≡ l.initial.memo;
}

abbrev pub decreases-often : goal.decreases-often
decreases-often g l = let k = g.D.Dispatcher.knows l.with in turns_left k.program l.self.fuel l.self.calls (work_of l.work l.self.now) (now_of l.self.now)
