use Rattle.std.proofs.Common.{subst, inl, inr, IfOk}
use Rattle.jl_program.specs.Scope.{all_types}
use Rattle.jl_sig.specs.SigParts.{written_of}
use Rattle.jl_operations.specs.Questions.{order_of}
use Rattle.jl_operations.proofs.QuestionLemmas.{kept_large, kept_small, kept_broken, kept_own, kept_written, order_left, order_right}
use Rattle.jl_operations.proofs.questions.order_kept.Goals as goal

pub returns-then-is_too_large-clause-answer : goal.returns-then-is_too_large-clause-answer
returns-then-is_too_large-clause-answer c =
    let ds = all_types c.args.ready.now in
    order_left ds c.args.left.now c.args.right.now (kept_large ds c.args.left.now c.args.left_kept.now c.requires.left_kept (c.is_too_large.ensures.large c.if-is_too_large.true))

pub returns-then-is_too_large-2-clause-answer : goal.returns-then-is_too_large-2-clause-answer
returns-then-is_too_large-2-clause-answer c =
    let ds = all_types c.args.ready.now in
    order_right ds c.args.left.now c.args.right.now (kept_large ds c.args.right.now c.args.right_kept.now c.requires.right_kept (c.is_too_large-2.ensures.large c.if-is_too_large-2.true))

pub test_order_by-requires-clause-left : goal.test_order_by-requires-clause-left
test_order_by-requires-clause-left c = kept_own (all_types c.args.ready.now) c.args.left.now c.args.left_kept.now c.in-Some.left_sig.now c.requires.left_kept c.in-Some.ensures

pub test_order_by-requires-clause-right : goal.test_order_by-requires-clause-right
test_order_by-requires-clause-right c = kept_own (all_types c.args.ready.now) c.args.right.now c.args.right_kept.now c.in-Some-sig.right_sig.now c.requires.right_kept c.in-Some-sig.ensures

pub order_broken-requires-clause-left_small : goal.order_broken-requires-clause-left_small
order_broken-requires-clause-left_small c = kept_small (all_types c.args.ready.now) c.args.left.now c.args.left_kept.now c.requires.left_kept (c.is_too_large.ensures.small c.if-is_too_large.false)

pub order_broken-requires-clause-right_small : goal.order_broken-requires-clause-right_small
order_broken-requires-clause-right_small c = kept_small (all_types c.args.ready.now) c.args.right.now c.args.right_kept.now c.requires.right_kept (c.is_too_large-2.ensures.small c.if-is_too_large-2.false)

pub order_broken-requires-clause-broken : goal.order_broken-requires-clause-broken
order_broken-requires-clause-broken c =
    inr (kept_broken (all_types c.args.ready.now) c.args.right.now c.args.right_kept.now c.requires.right_kept (c.is_too_large-2.ensures.small c.if-is_too_large-2.false) c.in-None-sig.ensures)

pub order_broken-requires-in-None-clause-left_small : goal.order_broken-requires-in-None-clause-left_small
order_broken-requires-in-None-clause-left_small c = kept_small (all_types c.args.ready.now) c.args.left.now c.args.left_kept.now c.requires.left_kept (c.is_too_large.ensures.small c.if-is_too_large.false)

pub order_broken-requires-in-None-clause-right_small : goal.order_broken-requires-in-None-clause-right_small
order_broken-requires-in-None-clause-right_small c = kept_small (all_types c.args.ready.now) c.args.right.now c.args.right_kept.now c.requires.right_kept (c.is_too_large-2.ensures.small c.if-is_too_large-2.false)

pub order_broken-requires-in-None-clause-broken : goal.order_broken-requires-in-None-clause-broken
order_broken-requires-in-None-clause-broken c =
    inl (kept_broken (all_types c.args.ready.now) c.args.left.now c.args.left_kept.now c.requires.left_kept (c.is_too_large.ensures.small c.if-is_too_large.false) c.in-None.ensures)

pub returns-in-Some-sig-clause-answer : goal.returns-in-Some-sig-clause-answer
returns-in-Some-sig-clause-answer c =
    let ds = all_types c.args.ready.now in
    let e = kept_written ds c.args.left.now c.args.left_kept.now c.in-Some.left_sig.now c.requires.left_kept c.in-Some.ensures in
    let f = kept_written ds c.args.right.now c.args.right_kept.now c.in-Some-sig.right_sig.now c.requires.right_kept c.in-Some-sig.ensures in
    subst (λ z. IfOk c.test_order_by.result (λ o. order_of ds z c.args.right.now o)) e
    (subst (λ z. IfOk c.test_order_by.result (λ o. order_of ds (written_of c.in-Some.left_sig.now) z o)) f c.test_order_by.ensures.answer)
