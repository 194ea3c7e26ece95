use Rattle.std.proofs.Common.{refl}
use Rattle.jl_machine.proofs.Acting.{tuple_data, make_made, infer_inferred, isa_written, sub_left, sub_right, parts_answer, make_answer, infer_answer, isa_answer, sub_answer}
use Rattle.jl_program.specs.Scope.{all_types}
use Rattle.jl_machine.proofs.acts.operate.Goals as goal

pub make_tuple-requires : goal.make_tuple-requires
make_tuple-requires c = record { valid = tuple_data c.args.ready.now _ _ _ c.open_values-values.result.now c.open_values-values.ensures c.requires.good }

pub test_type-requires-clause-written : goal.test_type-requires-clause-written
test_type-requires-clause-written c = isa_written c.args.ready.now _ c.bindings-in-Isa.result.now c.args.expr.now _ c.bindings-in-Isa.ensures c.requires.good c.in-Isa.field-0 c.in-Isa.written c.in-Isa.is

pub test_order-requires-clause-left : goal.test_order-requires-clause-left
test_order-requires-clause-left c = sub_left c.args.ready.now _ c.bindings-in-Sub.result.now c.args.expr.now _ c.bindings-in-Sub.ensures c.requires.good c.in-Sub.left c.in-Sub.right c.in-Sub.is

pub test_order-requires-clause-right : goal.test_order-requires-clause-right
test_order-requires-clause-right c = sub_right c.args.ready.now _ c.bindings-in-Sub.result.now c.args.expr.now _ c.bindings-in-Sub.ensures c.requires.good c.in-Sub.left c.in-Sub.right c.in-Sub.is

pub returns-in-Parts-clause-answer : goal.returns-in-Parts-clause-answer
returns-in-Parts-clause-answer c =
    parts_answer c.make_tuple.result (all_types c.args.ready.now) c.args.frames.now.bindings c.args.frames.now.bindings c.args.expr.now _ c.open_values-values.result.now refl c.open_values-values.ensures c.in-Parts.field-0 c.in-Parts.is c.make_tuple.ensures.answer

pub returns-in-Egal-clause-valid : goal.returns-in-Egal-clause-valid
returns-in-Egal-clause-valid c = c.test_same.ensures.valid c.args.ready.now

pub returns-in-Isa-clause-answer : goal.returns-in-Isa-clause-answer
returns-in-Isa-clause-answer c =
    isa_answer c.test_type.result (all_types c.args.ready.now) _ c.bindings-in-Isa.result.now c.args.expr.now _ c.open_values-values.result.now c.bindings-in-Isa.ensures c.open_values-values.ensures c.in-Isa.field-0 c.in-Isa.written c.value_at-in-Isa.result.now c.in-Isa.is c.value_at-in-Isa.ensures c.test_type.ensures.answer

pub returns-in-Sub-clause-answer : goal.returns-in-Sub-clause-answer
returns-in-Sub-clause-answer c =
    sub_answer c.test_order.result (all_types c.args.ready.now) _ c.bindings-in-Sub.result.now c.args.expr.now _ c.open_values-values.result.now c.bindings-in-Sub.ensures c.open_values-values.ensures c.in-Sub.left c.in-Sub.right c.in-Sub.is c.test_order.ensures.answer

pub make-requires-clause-written : goal.make-requires-clause-written
make-requires-clause-written c = make_made c.args.ready.now _ c.bindings.result.now c.args.expr.now _ c.bindings.ensures c.requires.good c.in-Make.written c.in-Make.field-1 c.in-Make.is

pub make-requires-clause-values : goal.make-requires-clause-values
make-requires-clause-values c = tuple_data c.args.ready.now _ _ _ c.open_values-values.result.now c.open_values-values.ensures c.requires.good

pub returns-in-Make-clause-answer : goal.returns-in-Make-clause-answer
returns-in-Make-clause-answer c =
    make_answer c.make.result (all_types c.args.ready.now) _ c.bindings.result.now c.args.expr.now _ c.open_values-values.result.now c.bindings.ensures c.open_values-values.ensures c.in-Make.written c.in-Make.field-1 c.in-Make.is c.make.ensures.answer

pub make_inferred-requires-clause-name : goal.make_inferred-requires-clause-name
make_inferred-requires-clause-name c = infer_inferred c.args.ready.now _ c.args.expr.now _ c.requires.good c.in-Infer.name c.in-Infer.field-1 c.in-Infer.is

pub make_inferred-requires-clause-values : goal.make_inferred-requires-clause-values
make_inferred-requires-clause-values c = tuple_data c.args.ready.now _ _ _ c.open_values-values.result.now c.open_values-values.ensures c.requires.good

pub returns-in-Infer-clause-answer : goal.returns-in-Infer-clause-answer
returns-in-Infer-clause-answer c =
    infer_answer c.make_inferred.result (all_types c.args.ready.now) c.args.frames.now.bindings c.args.frames.now.bindings c.args.expr.now _ c.open_values-values.result.now refl c.open_values-values.ensures c.in-Infer.name c.in-Infer.field-1 c.in-Infer.is c.make_inferred.ensures.answer
