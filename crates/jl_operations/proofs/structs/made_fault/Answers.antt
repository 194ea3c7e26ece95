use Rattle.std.proofs.Common.{refl, subst, map}
use Rattle.jl_program.specs.Meaning.{datum}
use Rattle.jl_value.specs.Answers.{StructCause}
use Rattle.jl_operations.proofs.StructLemmas.{large_told, count_told, other_told, place_field, place_value}
use Rattle.jl_operations.proofs.structs.made_fault.Goals as goal

pub returns-in-ValueLimit : goal.returns-in-ValueLimit
returns-in-ValueLimit c =
    let parts = map datum c.args.values.now in
    let h = subst (StructCause c.args.table.now c.args.ty.now parts) c.in-ValueLimit.is c.requires.cause in
    large_told c.args.table.now c.args.ty.now c.args.values.now parts refl h.0 h.1

pub returns-in_ok-fault-in-FieldCount : goal.returns-in_ok-fault-in-FieldCount
returns-in_ok-fault-in-FieldCount c =
    let parts = map datum c.args.values.now in
    let h = subst (StructCause c.args.table.now c.args.ty.now parts) c.in-FieldCount.is c.requires.cause in
    count_told c.args.table.now c.args.ty.now c.args.values.now parts c.in_ok-fault-in-FieldCount.fault refl h c.in_ok-fault-in-FieldCount.ensures

pub returns-in_ok-fault-in-FieldType : goal.returns-in_ok-fault-in-FieldType
returns-in_ok-fault-in-FieldType c =
    let parts = map datum c.args.values.now in
    let h = subst (StructCause c.args.table.now c.args.ty.now parts) c.in-FieldType.is c.requires.cause in
    other_told c.args.table.now c.args.ty.now c.args.values.now parts c.in-FieldType.place c.in_ok-fault-in-FieldType.fault refl h.0 h.1 c.in_ok-fault-in-FieldType.ensures

pub field_fault-requires-clause-field : goal.field_fault-requires-clause-field
field_fault-requires-clause-field c =
    let parts = map datum c.args.values.now in
    let h = subst (StructCause c.args.table.now c.args.ty.now parts) c.in-FieldType.is c.requires.cause in
    place_field c.args.table.now c.args.ty.now c.args.values.now parts c.in-FieldType.place h.1

pub field_fault-requires-clause-value : goal.field_fault-requires-clause-value
field_fault-requires-clause-value c =
    let parts = map datum c.args.values.now in
    let h = subst (StructCause c.args.table.now c.args.ty.now parts) c.in-FieldType.is c.requires.cause in
    place_value c.args.table.now c.args.ty.now c.args.values.now parts c.in-FieldType.place refl h.0 h.1
