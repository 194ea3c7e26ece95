use Rattle.jl_rows.proofs.OpenLemmas.{one_open}
use Rattle.jl_rows.proofs.laws.law_one_open_row.Goals as goal

pub returns : goal.returns
returns c = one_open
