use Rattle.jl_operations.proofs.MemoLemmas.{put_at}
use Rattle.jl_operations.proofs.prepared.put.Goals as goal

pub returns : goal.returns
returns c = rw c.replace.ensures.after (put_at c.args.prepared c.args.table.now.items c.place_of-place.result)
