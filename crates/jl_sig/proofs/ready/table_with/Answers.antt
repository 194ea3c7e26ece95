use Rattle.jl_sig.proofs.ReadyLemmas.{ready_at}
use Rattle.jl_sig.proofs.ready.table_with.Goals as goal

pub add-requires : goal.add-requires
add-requires c = ready_at c.args.decls.now c.loop-decl.table c.loop-decl.decl-index c.decl-item.result c.in_ok-copy.copy c.requires c.loop-decl-test.true c.decl-item.is c.in_ok-copy.ensures c.loop-decl.invariant
