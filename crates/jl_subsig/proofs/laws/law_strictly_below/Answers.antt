use Rattle.jl_subsig.proofs.laws.law_strictly_below.Goals as goal

pub returns : goal.returns
returns c = record { irreflexive = λ n a s. s.1 s.0; asymmetric = λ n a b s t. s.1 t.0 }
