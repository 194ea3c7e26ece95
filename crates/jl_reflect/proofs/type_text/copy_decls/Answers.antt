use Rattle.jl_reflect.proofs.TextSteps.{taken_next}
use Rattle.jl_reflect.proofs.type_text.copy_decls.Goals as goal

pub loop-number-preserved : goal.loop-number-preserved
loop-number-preserved c =
    taken_next c.args.table.now c.loop-number.decls c.push.new.self c.decl.result.now c.in_ok-copy.copy c.loop-number.number c.in_ok-push.ensures c.in_ok-copy.ensures c.decl.ensures c.loop-number.invariant
