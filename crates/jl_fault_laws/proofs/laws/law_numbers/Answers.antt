use Rattle.jl_fault_laws.proofs.NumberedTrees.{numbers_are}
use Rattle.jl_fault_laws.proofs.laws.law_numbers.Goals as goal

pub returns : goal.returns
returns c = numbers_are
