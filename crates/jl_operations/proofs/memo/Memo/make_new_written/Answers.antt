use Rattle.std.proofs.Common.{sym, subst, IfOk}
use Rattle.std.proofs.lemmas.Result.{IfOk-weaker}
use Rattle.jl_model.specs.declared.ty.Written.{Written}
use Rattle.jl_program.specs.Scope.{all_types}
use Rattle.jl_calculus.specs.Operations.{make_struct}
use Rattle.jl_operations.specs.Bodies.{IsBodySig}
use Rattle.jl_operations.specs.Constructed.{IsOneConstructed, made_of}
use Rattle.jl_operations.specs.Memo.{IsFormed}
use Rattle.jl_operations.proofs.BodyLemmas.{written_sig}
use Rattle.jl_operations.proofs.MadeLemmas.{made_constructed}
use Rattle.jl_operations.proofs.MemoLemmas.{formed_made}
use Rattle.jl_operations.proofs.memo.Memo.make_new_written.Goals as goal

pub make_struct-requires-clause-struct_type : goal.make_struct-requires-clause-struct_type
make_struct-requires-clause-struct_type c =
    let formed = subst (λ ds. IsFormed ds c.in_ok-put.put c.in-Some.form.now) c.requires.types c.in-Some.ensures in formed.struct

pub make_new-requires-clause-body : goal.make_new-requires-clause-body
make_new-requires-clause-body c = subst (IsBodySig (all_types c.args.ready.now)) (sym c.in_ok-put.ensures) (written_sig c.args.ready.now c.args.statics.now c.args.written.now c.requires.written.written)

pub make_new-requires-clause-parts : goal.make_new-requires-clause-parts
make_new-requires-clause-parts c =
    subst (λ (z : Written). IsOneConstructed (all_types c.args.ready.now) z.parts) (sym c.in_ok-put.ensures) (made_constructed c.args.ready.now c.args.statics.now c.args.written.now c.requires.written)

pub returns-in-Some-clause-answer : goal.returns-in-Some-clause-answer
returns-in-Some-clause-answer c =
    let ds = all_types c.args.ready.now in
    let formed = subst (λ ds. IsFormed ds c.in_ok-put.put c.in-Some.form.now) c.requires.types c.in-Some.ensures in
    subst (λ z. IfOk c.make_struct.result (λ o. made_of ds z c.args.values.now o)) c.in_ok-put.ensures
    (IfOk-weaker c.make_struct.result (λ o. make_struct ds c.in-Some.form.now c.args.values.now o) (λ o. made_of ds c.in_ok-put.put c.args.values.now o)
    (λ o m. formed_made ds c.in_ok-put.put c.in-Some.form.now c.args.values.now o c.valid.ensures.decls formed m) c.make_struct.ensures.answer)

pub returns-in-Some-clause-valid : goal.returns-in-Some-clause-valid
returns-in-Some-clause-valid c = c.make_struct.ensures.valid

pub returns-clause-answer : goal.returns-clause-answer
returns-clause-answer c = subst (λ z. IfOk c.make_new.result (λ o. made_of (all_types c.args.ready.now) z c.args.values.now o)) c.in_ok-put.ensures c.make_new.ensures.answer

pub returns-clause-valid : goal.returns-clause-valid
returns-clause-valid c = c.make_new.ensures.valid
