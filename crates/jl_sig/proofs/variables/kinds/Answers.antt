use Rattle.std.proofs.Common.{subst, ◌<◌}
use Rattle.jl_sig.proofs.RowLemmas.{kinds_step}
use Rattle.jl_sig.proofs.variables.kinds.Goals as goal

pub loop-variable-preserved : goal.loop-variable-preserved
loop-variable-preserved c =
    let v = c.loop-variable.variable in
    kinds_step c.args.written.now v c.kind_of.result c.loop-variable.kinds.items c.push.new.self.items (subst (λ z. v < z) c.len-variable-end.ensures c.loop-variable-test.true)
    c.kind_of.ensures c.in_ok-push.ensures.items c.loop-variable.invariant
