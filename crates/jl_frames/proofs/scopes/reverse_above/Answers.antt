use Rattle.std.proofs.Common.{arith}
use Rattle.jl_frames.proofs.MoveLemmas.{few_turned}
use Rattle.jl_frames.proofs.scopes.reverse_above.Goals as goal

pub returns-else-len-place-gt1 : goal.returns-else-len-place-gt1
returns-else-len-place-gt1 c = few_turned c.args.place c.args.slots.now.items (omega (arith, c.if-len-place-gt1.false, c.len.ensures, c.requires))
