use Rattle.std.proofs.Common.{sym, subst, IfOk}
use Rattle.std.proofs.lemmas.Result.{IfOk-weaker}
use Rattle.jl_program.specs.Scope.{all_types}
use Rattle.jl_calculus.specs.Operations.{make_struct}
use Rattle.jl_operations.specs.Constructed.{made_of}
use Rattle.jl_operations.specs.Memo.{IsFormed}
use Rattle.jl_operations.proofs.MemoLemmas.{formed_made, formed_stays}
use Rattle.jl_operations.proofs.memo.Memo.make_written.Goals as goal

pub make_struct-requires-clause-struct_type : goal.make_struct-requires-clause-struct_type
make_struct-requires-clause-struct_type c =
    let formed = subst (λ ds. IsFormed ds c.args.written.now c.in-Some.form.now) c.requires.types c.in-Some.ensures in formed.struct

pub returns-in-Some-clause-answer : goal.returns-in-Some-clause-answer
returns-in-Some-clause-answer c =
    let ds = all_types c.args.ready.now in
    let formed = subst (λ ds. IsFormed ds c.args.written.now c.in-Some.form.now) c.requires.types c.in-Some.ensures in
    let same = formed_stays c.args.ready.now c.args.statics.now c.args.written.now c.in-Some.form.now c.requires.written.written formed in
    subst (λ z. IfOk c.make_struct.result (λ o. made_of ds z c.args.values.now o)) (sym same)
    (IfOk-weaker c.make_struct.result (λ o. make_struct ds c.in-Some.form.now c.args.values.now o) (λ o. made_of ds c.args.written.now c.args.values.now o)
    (λ o m. formed_made ds c.args.written.now c.in-Some.form.now c.args.values.now o c.valid.ensures.decls formed m) c.make_struct.ensures.answer)

pub returns-in-Some-clause-valid : goal.returns-in-Some-clause-valid
returns-in-Some-clause-valid c = c.make_struct.ensures.valid

pub returns-in-None-clause-answer : goal.returns-in-None-clause-answer
returns-in-None-clause-answer c = c.make_new_written.ensures.answer

pub returns-in-None-clause-valid : goal.returns-in-None-clause-valid
returns-in-None-clause-valid c = c.make_new_written.ensures.valid
