use Rattle.jl_embed.specs.Replies.{wrote_all, wrote_part, wanted_memory}
use Rattle.jl_embed.proofs.serving.tell.Goals as goal

pub returns-in-Ok-clause-written : goal.returns-in-Ok-clause-written
returns-in-Ok-clause-written g c = wrote_all c.in-Ok.ensures.all

pub returns-in-Err-Failed-clause-written : goal.returns-in-Err-Failed-clause-written
returns-in-Err-Failed-clause-written g c = wrote_part c.write_all.ensures.taken.0 c.write_all.ensures.taken.2 (rw c.in-Err-Failed.field-0-is at c.in-Err-Failed.ensures.rose)

pub returns-in-Err-Memory-clause-written : goal.returns-in-Err-Memory-clause-written
returns-in-Err-Memory-clause-written g c = wanted_memory c.write_all.ensures.taken.0 c.write_all.ensures.taken.2
