use Rattle.jl_subsig.proofs.KeptRowLemmas.{kept_row, row_of_kept}
use Rattle.jl_subsig.proofs.laws.law_kept_rows.Goals as goal

pub returns : goal.returns
returns c = record { kept = kept_row; all = row_of_kept }
