use Rattle.std.proofs.Common.{sym, subst, IfOk}
use Rattle.jl_program.specs.Scope.{all_types}
use Rattle.jl_operations.specs.Memo.{IsOf}
use Rattle.jl_operations.specs.Questions.{isa_of}
use Rattle.jl_operations.proofs.MemoLemmas.{of_body, of_kept, found_stays}
use Rattle.jl_operations.proofs.memo.Memo.test_type.Goals as goal

pub type_kept-requires-clause-written : goal.type_kept-requires-clause-written
type_kept-requires-clause-written c =
    let of = subst (λ ds. IsOf ds c.args.written.now c.in-Some.prepared.now) c.requires.types c.in-Some.ensures in
    of_body (all_types c.args.ready.now) c.args.written.now c.in-Some.prepared.now of

pub type_kept-requires-clause-kept : goal.type_kept-requires-clause-kept
type_kept-requires-clause-kept c =
    let of = subst (λ ds. IsOf ds c.args.written.now c.in-Some.prepared.now) c.requires.types c.in-Some.ensures in
    of_kept (all_types c.args.ready.now) c.args.written.now c.in-Some.prepared.now of

pub returns-in-Some-clause-answer : goal.returns-in-Some-clause-answer
returns-in-Some-clause-answer c =
    let of = subst (λ ds. IsOf ds c.args.written.now c.in-Some.prepared.now) c.requires.types c.in-Some.ensures in
    let same = found_stays c.args.ready.now c.args.statics.now c.args.written.now c.in-Some.prepared.now c.requires.written of in
    subst (λ z. IfOk c.type_kept.result (λ o. isa_of (all_types c.args.ready.now) c.args.value.now z o)) (sym same) c.type_kept.ensures.answer

pub returns-in-Some-clause-valid : goal.returns-in-Some-clause-valid
returns-in-Some-clause-valid c = c.type_kept.ensures.valid

pub returns-in-None-clause-answer : goal.returns-in-None-clause-answer
returns-in-None-clause-answer c = c.test_new_type.ensures.answer

pub returns-in-None-clause-valid : goal.returns-in-None-clause-valid
returns-in-None-clause-valid c = c.test_new_type.ensures.valid
