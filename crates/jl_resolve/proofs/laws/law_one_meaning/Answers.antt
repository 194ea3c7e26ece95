use Rattle.jl_resolve.proofs.OneMeaning.{one_code, one_fault}
use Rattle.jl_resolve.proofs.laws.law_one_meaning.Goals as goal

pub returns : goal.returns
returns c = record { program = one_code; fault = one_fault }
