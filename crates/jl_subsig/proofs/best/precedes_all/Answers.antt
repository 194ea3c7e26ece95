use Rattle.jl_model.specs.Ancestors.{table_of}
use Rattle.jl_subsig.specs.declared.choice.Method.{Method}
use Rattle.jl_subsig.specs.Decide.{method_in}
use Rattle.jl_subsig.specs.Preceding.{Precedes}
use Rattle.jl_subsig.proofs.OrderSteps.{every_on}
use Rattle.jl_subsig.proofs.best.precedes_all.Goals as goal

pub loop-other-preserved : goal.loop-other-preserved
loop-other-preserved c h =
    c.loop-other.invariant
    (every_on (λ (other : Method). Precedes (table_of c.args.table.now) (method_in c.args.method.now) (method_in other)) c.args.methods.now c.loop-other.other-index c.other-item.result
    (c.in_ok-precedes.ensures c.if-not-branch.false) c.loop-other-test.true c.other-item.is h)
