use Rattle.jl_operations.proofs.ValidLemmas.{truth_valid}
use Rattle.jl_operations.proofs.outcomes.truth.Goals as goal

pub returns-clause-valid : goal.returns-clause-valid
returns-clause-valid c P = truth_valid P c.args.holds
