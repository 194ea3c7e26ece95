use Rattle.std.proofs.Common.{sym, subst, IfOk}
use Rattle.jl_program.specs.Scope.{all_types}
use Rattle.jl_operations.specs.Bodies.{IsBodySig, IsKeptAs}
use Rattle.jl_operations.specs.Questions.{isa_of}
use Rattle.jl_operations.proofs.BodyLemmas.{written_sig}
use Rattle.jl_operations.proofs.memo.Memo.test_new_type.Goals as goal

pub prepare-requires-clause-body : goal.prepare-requires-clause-body
prepare-requires-clause-body c =
    subst (λ z. IsBodySig z c.in_ok-put.put) (sym c.table.ensures)
    (subst (IsBodySig (all_types c.args.ready.now)) (sym c.in_ok-put.ensures) (written_sig c.args.ready.now c.args.statics.now c.args.written.now c.requires.written))

pub type_kept-requires-clause-written : goal.type_kept-requires-clause-written
type_kept-requires-clause-written c = subst (IsBodySig (all_types c.args.ready.now)) (sym c.in_ok-put.ensures) (written_sig c.args.ready.now c.args.statics.now c.args.written.now c.requires.written)

pub type_kept-requires-clause-kept : goal.type_kept-requires-clause-kept
type_kept-requires-clause-kept c = subst (λ z. IsKeptAs z c.in_ok-put.put c.in_ok-kept.kept) c.table.ensures c.in_ok-kept.ensures.kept

pub returns-clause-answer : goal.returns-clause-answer
returns-clause-answer c = subst (λ z. IfOk c.type_kept.result (λ o. isa_of (all_types c.args.ready.now) c.args.value.now z o)) c.in_ok-put.ensures c.type_kept.ensures.answer

pub returns-clause-valid : goal.returns-clause-valid
returns-clause-valid c = c.type_kept.ensures.valid
