use Rattle.std.proofs.Common.{sym, subst, IfOk}
use Rattle.jl_program.specs.Scope.{all_types}
use Rattle.jl_calculus.specs.Statics.{with_statics}
use Rattle.jl_operations.specs.Bodies.{IsBodySig, IsKeptAs}
use Rattle.jl_operations.specs.Questions.{order_of}
use Rattle.jl_operations.proofs.BodyLemmas.{written_sig}
use Rattle.jl_operations.proofs.memo.Memo.test_new_order.Goals as goal

pub prepare-requires-clause-body : goal.prepare-requires-clause-body
prepare-requires-clause-body c =
    subst (λ z. IsBodySig z c.in_ok-left.left) (sym c.table.ensures)
    (subst (IsBodySig (all_types c.args.ready.now)) (sym c.in_ok-left.ensures) (written_sig c.args.ready.now c.args.statics.now c.args.left.now c.requires.left))

pub prepare-requires-2-clause-body : goal.prepare-requires-2-clause-body
prepare-requires-2-clause-body c =
    subst (λ z. IsBodySig z c.in_ok-right.right) (sym c.table-2.ensures)
    (subst (IsBodySig (all_types c.args.ready.now)) (sym c.in_ok-right.ensures) (written_sig c.args.ready.now c.args.statics.now c.args.right.now c.requires.right))

pub order_kept-requires-clause-left : goal.order_kept-requires-clause-left
order_kept-requires-clause-left c = subst (IsBodySig (all_types c.args.ready.now)) (sym c.in_ok-left.ensures) (written_sig c.args.ready.now c.args.statics.now c.args.left.now c.requires.left)

pub order_kept-requires-clause-left_kept : goal.order_kept-requires-clause-left_kept
order_kept-requires-clause-left_kept c = subst (λ z. IsKeptAs z c.in_ok-left.left c.in_ok-left_kept.left_kept) c.table.ensures c.in_ok-left_kept.ensures.kept

pub order_kept-requires-clause-right : goal.order_kept-requires-clause-right
order_kept-requires-clause-right c = subst (IsBodySig (all_types c.args.ready.now)) (sym c.in_ok-right.ensures) (written_sig c.args.ready.now c.args.statics.now c.args.right.now c.requires.right)

pub order_kept-requires-clause-right_kept : goal.order_kept-requires-clause-right_kept
order_kept-requires-clause-right_kept c = subst (λ z. IsKeptAs z c.in_ok-right.right c.in_ok-right_kept.right_kept) c.table-2.ensures c.in_ok-right_kept.ensures.kept

pub returns-clause-answer : goal.returns-clause-answer
returns-clause-answer c =
    let ds = all_types c.args.ready.now in
    subst (λ z. IfOk c.order_kept.result (λ o. order_of ds z (with_statics c.args.statics.now c.args.right.now) o)) c.in_ok-left.ensures (subst (λ z. IfOk c.order_kept.result (λ o. order_of ds c.in_ok-left.left z o)) c.in_ok-right.ensures c.order_kept.ensures.answer)

pub returns-clause-valid : goal.returns-clause-valid
returns-clause-valid c = c.order_kept.ensures.valid
