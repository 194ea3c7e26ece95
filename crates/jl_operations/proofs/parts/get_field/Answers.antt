use Rattle.jl_program.specs.Scope.{all_types}
use Rattle.jl_operations.proofs.ValidLemmas.{field_given, field_given_valid, copied_known}
use Rattle.jl_operations.proofs.parts.get_field.Goals as goal

pub returns-in_ok-part-in-Some-clause-answer : goal.returns-in_ok-part-in-Some-clause-answer
returns-in_ok-part-in-Some-clause-answer c =
    field_given (all_types c.args.ready.now) c.table-table.result.now c.as_slice.result.now c.args.name.now c.args.value.now c.in-Some.part.now c.in_ok-part-in-Some.part c.table-table.ensures c.as_slice.ensures c.in-Some.ensures c.in_ok-part-in-Some.ensures

pub returns-in_ok-part-in-Some-clause-valid : goal.returns-in_ok-part-in-Some-clause-valid
returns-in_ok-part-in-Some-clause-valid c =
    field_given_valid (all_types c.args.ready.now) c.table-table.result.now c.as_slice.result.now c.args.name.now c.args.value.now c.in-Some.part.now c.in_ok-part-in-Some.part c.table-table.ensures c.as_slice.ensures c.in-Some.ensures
    c.in_ok-part-in-Some.ensures c.requires.valid

pub returns-in_ok-ty-in-None-clause-valid : goal.returns-in_ok-ty-in-None-clause-valid
returns-in_ok-ty-in-None-clause-valid c = copied_known c.args.ready.now c.valid.ensures c.args.value.now c.in_ok-ty-in-None.ty c.type_of.result.now c.requires.valid c.in_ok-ty-in-None.ensures c.type_of.ensures
