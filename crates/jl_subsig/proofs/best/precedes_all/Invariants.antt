use Rattle.std.proofs.Common.{drop}
use Rattle.jl_model.specs.Ancestors.{table_of}
use Rattle.jl_subsig.specs.Side.{Every}
use Rattle.jl_subsig.specs.Decide.{method_in}
use Rattle.jl_subsig.specs.Preceding.{Precedes}
use Rattle.jl_subsig.proofs.best.precedes_all.Given as goal

abbrev pub invariant-loop-other : goal.invariant-loop-other
invariant-loop-other l =
    Every (λ other. Precedes (table_of l.table) (method_in l.method) (method_in other)) (drop l.other-index l.methods)
    → Every (λ other. Precedes (table_of l.table) (method_in l.method) (method_in other)) l.methods
