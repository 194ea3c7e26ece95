use Rattle.jl_operations.proofs.ValidLemmas.{struct_type}
use Rattle.jl_operations.proofs.parts.field_of.Goals as goal

pub made_field-requires : goal.made_field-requires
made_field-requires c = struct_type c.args.table.now c.args.value.now c.in-Struct.made c.in-Struct.is c.requires
