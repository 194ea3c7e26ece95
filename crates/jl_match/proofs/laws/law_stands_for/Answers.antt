use Rattle.jl_model.specs.Ancestors.{table_of}
use Rattle.jl_model.proofs.DeclaredLemmas.{declared_lawful}
use Rattle.jl_match.proofs.StandLemmas.{there, back}
use Rattle.jl_match.proofs.laws.law_stands_for.Goals as goal

pub returns-clause-there : goal.returns-clause-there
returns-clause-there c ds declared s t r k stands ts f h = there (table_of ds) (declared_lawful ds declared) s t r k stands ts f h

pub returns-clause-back : goal.returns-clause-back
returns-clause-back c ds declared s t r k stands ts f h = back (table_of ds) (declared_lawful ds declared) s t r k stands ts f h
