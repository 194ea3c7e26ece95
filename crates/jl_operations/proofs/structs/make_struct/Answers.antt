use Rattle.std.proofs.Common.{sym, subst}
use Rattle.jl_program.specs.Meaning.{datum}
use Rattle.jl_program.specs.Scope.{all_types}
use Rattle.jl_program.specs.ValidValue.{IsValid, AllValid, IsStructType}
use Rattle.jl_value.specs.Answers.{StructCause}
use Rattle.jl_calculus.specs.declared.history.Outcome.TheVariants as O
use Rattle.jl_calculus.specs.Operations.{make_struct}
use Rattle.jl_operations.proofs.StructLemmas.{struct_told, struct_fault_valid}
use Rattle.jl_operations.proofs.structs.make_struct.Goals as goal

pub construct-requires-clause-struct_type : goal.construct-requires-clause-struct_type
construct-requires-clause-struct_type c = subst (λ z. IsStructType z c.args.ty.now) (sym c.table-table.ensures) c.requires.struct_type

pub construct-requires-clause-parts_valid : goal.construct-requires-clause-parts_valid
construct-requires-clause-parts_valid c =
    subst (λ z. AllValid z c.in_ok-parts.parts) (sym c.table-table.ensures) (subst (AllValid (all_types c.args.ready.now)) (sym c.in_ok-parts.ensures) c.requires.values)

pub returns-in-Ok-clause-answer : goal.returns-in-Ok-clause-answer
returns-in-Ok-clause-answer c =
    struct_told (all_types c.args.ready.now) c.args.ty.now c.args.values.now c.in-Ok.value c.in_ok-parts.parts c.in_ok-parts.ensures c.in-Ok.ensures.made
    (subst (λ z. IsValid z (datum c.in-Ok.value)) c.table-table.ensures c.in-Ok.ensures.valid)

pub returns-in-Ok-clause-valid : goal.returns-in-Ok-clause-valid
returns-in-Ok-clause-valid c = subst (λ z. IsValid z (datum c.in-Ok.value)) c.table-table.ensures c.in-Ok.ensures.valid

pub made_fault-requires-clause-struct_type : goal.made_fault-requires-clause-struct_type
made_fault-requires-clause-struct_type c = subst (λ z. IsStructType z c.args.ty.now) (sym c.table-table.ensures) c.requires.struct_type

pub made_fault-requires-clause-cause : goal.made_fault-requires-clause-cause
made_fault-requires-clause-cause c = subst (λ z. StructCause c.table-table.result.now c.args.ty.now z c.in-Err.cause) c.in_ok-parts.ensures c.in-Err.ensures.fault

pub returns-in_ok-fault-in-Err-clause-answer : goal.returns-in_ok-fault-in-Err-clause-answer
returns-in_ok-fault-in-Err-clause-answer c = subst (λ z. make_struct z c.args.ty.now c.args.values.now (O.Error c.in_ok-fault-in-Err.fault)) c.table-table.ensures c.in_ok-fault-in-Err.ensures

pub returns-in_ok-fault-in-Err-clause-valid : goal.returns-in_ok-fault-in-Err-clause-valid
returns-in_ok-fault-in-Err-clause-valid c =
    struct_fault_valid c.args.ready.now c.valid.ensures c.args.ty.now c.args.values.now c.in_ok-fault-in-Err.fault c.requires.struct_type.value_type.valid.known c.requires.values
    (subst (λ z. make_struct z c.args.ty.now c.args.values.now (O.Error c.in_ok-fault-in-Err.fault)) c.table-table.ensures c.in_ok-fault-in-Err.ensures)
