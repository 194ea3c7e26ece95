use Rattle.jl_resolve_forms.specs.Expressions.{static_parameter}
use Rattle.jl_resolve_forms.proofs.TypeSteps.{pushed}
use Rattle.jl_resolve_forms.proofs.methods.all_static.Goals as goal

pub loop-var-preserved : goal.loop-var-preserved
loop-var-preserved c =
    pushed (static_parameter c.args.written.now) c.loop-var.statics.items c.push.new.self.items _ c.args.vars.now c.loop-var.var-index c.var-item.result c.in_ok-static_parameter.field-0
    c.loop-var.invariant c.loop-var-test.true c.var-item.is c.in_ok-static_parameter.ensures c.in_ok-push.ensures.items
