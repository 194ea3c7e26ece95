use Rattle.std.proofs.Common.{◌≡◌, ◌++◌, drop, map}
use Rattle.jl_model.specs.Rows.{free}
use Rattle.jl_typeread.specs.declared.tree.VarText.{VarText}
use Rattle.jl_declare.proofs.read.free_params.Given as goal

abbrev pub invariant-loop : goal.invariant-loop
invariant-loop l = (l.out.items ++ map (λ (v : VarText). free) (drop l.index l.params)) ≡ map (λ (v : VarText). free) l.params
