use Rattle.std.proofs.Common.{map, take}
use Rattle.jl_model.specs.Ancestors.{table_of}
use Rattle.jl_model.specs.Kept.{field_types}
use Rattle.jl_model.specs.Subtype.{opaque, put, at, Below}
use Rattle.jl_model.specs.Signature.{Both}
use Rattle.jl_program.specs.TypeOf.{type_of}
use Rattle.jl_value.proofs.make.check_fields.Given as goal

abbrev pub invariant-loop-i : goal.invariant-loop-i
invariant-loop-i l = Both (Below (table_of l.table) opaque) (take l.i (map type_of l.parts)) (take l.i (map (put (at l.args)) (field_types l.fields)))
