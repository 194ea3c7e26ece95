use Rattle.jl_declare.proofs.StepLemmas.{pushed_next}
use Rattle.jl_declare.proofs.declarations.builtin.Goals as goal

pub loop-number-preserved : goal.loop-number-preserved
loop-number-preserved c =
    pushed_next c.in_ok-table.table c.loop-number.decls c.push.new.self c.decl.result.now c.in_ok-copy_decl.field-0 c.loop-number.number c.in_ok-push.ensures c.in_ok-copy_decl.ensures c.decl.ensures c.loop-number.invariant
