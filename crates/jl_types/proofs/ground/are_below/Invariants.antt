use Rattle.std.proofs.Common.{drop}
use Rattle.jl_model.specs.Ancestors.{table_of}
use Rattle.jl_model.specs.Members.{EachBelow}
use Rattle.jl_types.proofs.ground.are_below.Given as goal

abbrev pub invariant-loop-lower : goal.invariant-loop-lower
invariant-loop-lower l = EachBelow (table_of l.table) (drop l.lower-index l.lowers) l.upper → EachBelow (table_of l.table) l.lowers l.upper
