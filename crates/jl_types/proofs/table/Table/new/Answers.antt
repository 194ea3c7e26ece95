use Rattle.jl_model.specs.Refusals.{builtin}
use Rattle.jl_types.proofs.table.Table.new.Goals as goal

pub invariant_of-result : goal.invariant_of-result
invariant_of-result c = record { declared = rw c.in_ok-builtin.ensures builtin; builtin = c.in_ok-builtin_terms.ensures }
