use Rattle.std.proofs.Common.{arith}
use Rattle.jl_model.specs.Ancestors.{table_of}
use Rattle.jl_model.specs.Bindings.{binding, bindings}
use Rattle.jl_match.proofs.BindingLemmas.{one_more}
use Rattle.jl_match.proofs.bindings.bindings.Goals as goal

pub loop-variable-preserved : goal.loop-variable-preserved
loop-variable-preserved c =
    let f = binding (table_of c.args.table.now) c.args.written.now c.args.types.now in
    one_more f c.args.written.now.vars c.loop-variable.variable c.in_ok-binding.field-0 c.loop-variable.found.items c.push.new.self.items (bindings (table_of c.args.table.now) c.args.written.now c.args.types.now)
    (omega (arith, c.loop-variable-test.true, c.len-variable-end.ensures)) c.in_ok-binding.ensures c.in_ok-push.ensures.items c.loop-variable.invariant
