use Rattle.jl_operations.proofs.TextLemmas.{of_other_length}
use Rattle.jl_operations.proofs.parts.is_same.Goals as goal

pub returns-then-left-right : goal.returns-then-left-right
returns-then-left-right c = of_other_length c.args.left.now c.args.right.now c.if-left-right.true
