use Rattle.std.proofs.Common.{arith}
use Rattle.jl_task.proofs.Traces.{looks_le}
use Rattle.jl_machine.proofs.task.Task.look.Goals as goal

pub newest-seen-requires : goal.newest-seen-requires
newest-seen-requires g c = let trace = c.args.self.now.trace in omega (arith, c.requires, looks_le trace, c.if-len.false, c.len.ensures)
