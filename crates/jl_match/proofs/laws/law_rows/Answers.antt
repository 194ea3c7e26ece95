use Rattle.jl_match.proofs.RowsLemmas.{rows_of, rows_kept}
use Rattle.jl_match.proofs.laws.law_rows.Goals as goal

pub returns-clause-kept : goal.returns-clause-kept
returns-clause-kept c ds declared s bs picks sig are ks h = rows_kept ds declared s bs picks sig are ks h

pub returns-clause-rows : goal.returns-clause-rows
returns-clause-rows c ds declared s bs picks sig are ks h = rows_of ds declared s bs picks sig are ks h
