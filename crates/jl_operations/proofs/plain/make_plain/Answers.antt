use Rattle.jl_operations.proofs.PlainLemmas.{plain_struct, plain_made}
use Rattle.jl_operations.proofs.plain.make_plain.Goals as goal

pub make_of_plain-requires-clause-struct_type : goal.make_of_plain-requires-clause-struct_type
make_of_plain-requires-clause-struct_type c = plain_struct c.args.ready.now c.args.statics.now c.args.written.now c.in-Some.ty.now c.requires.written c.valid.ensures.decls c.in-Some.ensures

pub returns-in-Some-clause-answer : goal.returns-in-Some-clause-answer
returns-in-Some-clause-answer c =
    plain_made c.args.ready.now c.args.statics.now c.args.written.now c.in-Some.ty.now c.requires.written c.valid.ensures.decls c.in-Some.ensures c.args.values.now c.make_of_plain.result c.make_of_plain.ensures.answer
