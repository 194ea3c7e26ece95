use Rattle.jl_model.proofs.OrderLemmas.{term_order, tied}
use Rattle.jl_types.proofs.laws.law_order.Goals as goal

pub returns : goal.returns
returns c = record { total = term_order; tied = tied }
