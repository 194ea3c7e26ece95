use Rattle.jl_typeread.proofs.read.one_type.Goals as goal
use Rattle.jl_typeread.proofs.Whole as W

pub returns : goal.returns
returns c = λ t u ts a b l. W.one_type t u ts a b l
