use Rattle.jl_task.proofs.KeptLemmas.{put_at}
use Rattle.jl_task.proofs.table.put.Goals as goal

pub returns : goal.returns
returns c = rw c.replace.ensures.after (put_at c.args.kept c.args.table.now.items c.place_of-place.result)
