use Rattle.std.proofs.Common.{sym, subst}
use Rattle.jl_program.specs.Meaning.{datum}
use Rattle.jl_program.specs.Scope.{all_types}
use Rattle.jl_program.specs.ValidValue.{IsValid, AllValid, IsStructType}
use Rattle.jl_operations.proofs.StructLemmas.{struct_told}
use Rattle.jl_operations.proofs.plain.make_of_plain.Goals as goal

pub construct-requires-clause-struct_type : goal.construct-requires-clause-struct_type
construct-requires-clause-struct_type c = subst (λ z. IsStructType z c.args.ty.now) (sym c.table-table.ensures) c.requires.struct_type

pub construct-requires-clause-parts_valid : goal.construct-requires-clause-parts_valid
construct-requires-clause-parts_valid c =
    subst (λ z. AllValid z c.in_ok-parts.parts) (sym c.table-table.ensures) (subst (AllValid (all_types c.args.ready.now)) (sym c.in_ok-parts.ensures) c.requires.values)

pub returns-in-Ok-clause-answer : goal.returns-in-Ok-clause-answer
returns-in-Ok-clause-answer c =
    struct_told (all_types c.args.ready.now) c.args.ty.now c.args.values.now c.in-Ok.value c.in_ok-parts.parts c.in_ok-parts.ensures c.in-Ok.ensures.made
    (subst (λ z. IsValid z (datum c.in-Ok.value)) c.table-table.ensures c.in-Ok.ensures.valid)

pub returns-in-Ok-clause-valid : goal.returns-in-Ok-clause-valid
returns-in-Ok-clause-valid c = subst (λ z. IsValid z (datum c.in-Ok.value)) c.table-table.ensures c.in-Ok.ensures.valid
