use Rattle.jl_calculus.proofs.RowLemmas.{one_right_site, one_first}
use Rattle.jl_calculus.proofs.history_laws.law_one_right_row.Goals as goal

pub returns : goal.returns
returns c = record { site = one_right_site; first = one_first }
