use Rattle.jl_match.proofs.KeepLemmas.{kept_row, stands}
use Rattle.jl_match.proofs.laws.law_kept_row.Goals as goal

pub returns-clause-kept : goal.returns-clause-kept
returns-clause-kept c ds declared s r bs us vs row kept = kept_row ds declared s r bs us vs row kept

pub returns-clause-stands : goal.returns-clause-stands
returns-clause-stands c ds declared s r bs us vs row kept = stands ds declared s r bs us vs row kept
