use Rattle.jl_grammar_laws.proofs.Must.{type_must, must_type}
use Rattle.jl_grammar_laws.proofs.laws.law_type_must.Goals as goal

pub returns-clause-told : goal.returns-clause-told
returns-clause-told c = type_must

pub returns-clause-only : goal.returns-clause-only
returns-clause-only c = must_type
