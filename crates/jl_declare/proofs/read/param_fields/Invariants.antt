use Rattle.std.proofs.Common.{◌≡◌, ◌++◌, drop}
use Rattle.jl_model.specs.AllRows.{each_var}
use Rattle.jl_declare.specs.Declaration.{field_of}
use Rattle.jl_declare.proofs.read.param_fields.Given as goal

abbrev pub invariant-loop-number : goal.invariant-loop-number
invariant-loop-number l = (l.out.items ++ each_var (field_of l.name) l.number (drop l.number l.params)) ≡ each_var (field_of l.name) 0 l.params
