use Rattle.std.proofs.Common.{codes, decimal}
use Rattle.jl_text.proofs.PieceLemmas.{after-one}
use Rattle.jl_text.proofs.faults.append_task_failed.Goals as goal

pub returns : goal.returns
returns c =
    after-one c.append_unsigned.result c.args.out.now c.append_unsigned.new.out c.append.new.self
    (codes "TaskFailedException: task ") (decimal c.args.task) c.in_ok-append.ensures (rw (← c.from.ensures) c.append_unsigned.ensures)
