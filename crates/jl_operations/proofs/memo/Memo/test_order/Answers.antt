use Rattle.std.proofs.Common.{sym, subst, IfOk}
use Rattle.jl_program.specs.Scope.{all_types}
use Rattle.jl_calculus.specs.Statics.{with_statics}
use Rattle.jl_operations.specs.Memo.{IsOf}
use Rattle.jl_operations.specs.Questions.{order_of}
use Rattle.jl_operations.proofs.MemoLemmas.{of_body, of_kept, found_stays}
use Rattle.jl_operations.proofs.memo.Memo.test_order.Goals as goal

pub order_kept-requires-clause-left : goal.order_kept-requires-clause-left
order_kept-requires-clause-left c =
    of_body (all_types c.args.ready.now) c.args.left.now c.in-Some.below.now (subst (λ ds. IsOf ds c.args.left.now c.in-Some.below.now) c.requires.types c.in-Some.ensures)

pub order_kept-requires-clause-left_kept : goal.order_kept-requires-clause-left_kept
order_kept-requires-clause-left_kept c =
    of_kept (all_types c.args.ready.now) c.args.left.now c.in-Some.below.now (subst (λ ds. IsOf ds c.args.left.now c.in-Some.below.now) c.requires.types c.in-Some.ensures)

pub order_kept-requires-clause-right : goal.order_kept-requires-clause-right
order_kept-requires-clause-right c =
    of_body (all_types c.args.ready.now) c.args.right.now c.in-Some-find.above.now (subst (λ ds. IsOf ds c.args.right.now c.in-Some-find.above.now) c.requires.types c.in-Some-find.ensures)

pub order_kept-requires-clause-right_kept : goal.order_kept-requires-clause-right_kept
order_kept-requires-clause-right_kept c =
    of_kept (all_types c.args.ready.now) c.args.right.now c.in-Some-find.above.now (subst (λ ds. IsOf ds c.args.right.now c.in-Some-find.above.now) c.requires.types c.in-Some-find.ensures)

pub returns-in-Some-find-clause-answer : goal.returns-in-Some-find-clause-answer
returns-in-Some-find-clause-answer c =
    let ds = all_types c.args.ready.now in
    let below = subst (λ z. IsOf z c.args.left.now c.in-Some.below.now) c.requires.types c.in-Some.ensures in
    let above = subst (λ z. IsOf z c.args.right.now c.in-Some-find.above.now) c.requires.types c.in-Some-find.ensures in
    let left = found_stays c.args.ready.now c.args.statics.now c.args.left.now c.in-Some.below.now c.requires.left below in
    let right = found_stays c.args.ready.now c.args.statics.now c.args.right.now c.in-Some-find.above.now c.requires.right above in
    subst (λ z. IfOk c.order_kept.result (λ o. order_of ds z (with_statics c.args.statics.now c.args.right.now) o)) (sym left)
    (subst (λ z. IfOk c.order_kept.result (λ o. order_of ds c.args.left.now z o)) (sym right) c.order_kept.ensures.answer)
