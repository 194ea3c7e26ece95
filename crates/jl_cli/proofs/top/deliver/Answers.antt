use Rattle.jl_cli.specs.Delivered.{all, failed, no_memory}
use Rattle.jl_cli.proofs.top.deliver.Goals as goal

pub returns-in-Ok-clause-delivered : goal.returns-in-Ok-clause-delivered
returns-in-Ok-clause-delivered g c = all c.in-Ok.ensures.all

pub returns-in-Err-Failed-clause-delivered : goal.returns-in-Err-Failed-clause-delivered
returns-in-Err-Failed-clause-delivered g c = failed c.write_all.ensures.taken.0 c.write_all.ensures.taken.2 (rw c.in-Err-Failed.field-0-is at c.in-Err-Failed.ensures.rose)

pub returns-in-Err-Memory-clause-delivered : goal.returns-in-Err-Memory-clause-delivered
returns-in-Err-Memory-clause-delivered g c = no_memory c.write_all.ensures.taken.0 c.write_all.ensures.taken.2
