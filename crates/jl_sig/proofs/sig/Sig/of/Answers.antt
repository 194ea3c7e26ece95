use Rattle.jl_sig.proofs.SigLemmas.{in_order}
use Rattle.jl_sig.proofs.sig.Sig.of.Goals as goal

pub returns-in-Ok-clause-kept : goal.returns-in-Ok-clause-kept
returns-in-Ok-clause-kept c = in_order c.args.table.now c.args.written.now c.in-Ok.prepared c.in-Ok.ensures.kept c.requires.allowed.ordered
