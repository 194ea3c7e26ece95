use Rattle.std.proofs.Common.{subst, sym, IfOk}
use Rattle.jl_program.specs.Scope.{all_types}
use Rattle.jl_model.specs.SigRefusals.{TypeLimit, BoundBroken}
use Rattle.jl_calculus.specs.Statics.{nominals_of, is_bad_parameter}
use Rattle.jl_operations.specs.Bodies.{IsBodySig}
use Rattle.jl_operations.specs.Broken.{IsNamed}
use Rattle.jl_operations.specs.Questions.{isa_of, isa_rest}
use Rattle.jl_operations.proofs.QuestionLemmas.{named_valid, kept_large, kept_small, kept_broken, kept_own, kept_written, type_limit, type_broken}
use Rattle.jl_operations.proofs.questions.type_kept.Goals as goal

pub returns-then-is_too_large-clause-answer : goal.returns-then-is_too_large-clause-answer
returns-then-is_too_large-clause-answer c =
    let ds = all_types c.args.ready.now in
    type_limit ds c.args.written.now (isa_rest ds c.args.value.now c.args.written.now)
    (kept_large ds c.args.written.now c.args.kept.now c.requires.kept (c.is_too_large.ensures.large c.if-is_too_large.true))

pub test_type_by-requires-clause-sig : goal.test_type_by-requires-clause-sig
test_type_by-requires-clause-sig c = kept_own (all_types c.args.ready.now) c.args.written.now c.args.kept.now c.in-Some.sig.now c.requires.kept c.in-Some.ensures

pub broken_type-requires-clause-body : goal.broken_type-requires-clause-body
broken_type-requires-clause-body c = subst (λ z. IsBodySig z c.args.written.now) (sym c.table.ensures) c.requires.written

pub broken_type-requires-clause-small : goal.broken_type-requires-clause-small
broken_type-requires-clause-small c =
    subst (λ z. TypeLimit z c.args.written.now → ⊥) (sym c.table.ensures) (kept_small (all_types c.args.ready.now) c.args.written.now c.args.kept.now c.requires.kept (c.is_too_large.ensures.small c.if-is_too_large.false))

pub broken_type-requires-clause-broken : goal.broken_type-requires-clause-broken
broken_type-requires-clause-broken c =
    subst (λ z. BoundBroken z c.args.written.now) (sym c.table.ensures)
    (kept_broken (all_types c.args.ready.now) c.args.written.now c.args.kept.now c.requires.kept (c.is_too_large.ensures.small c.if-is_too_large.false) c.in-None.ensures)

pub returns-in-Some-clause-answer : goal.returns-in-Some-clause-answer
returns-in-Some-clause-answer c =
    let ds = all_types c.args.ready.now in
    let e = kept_written ds c.args.written.now c.args.kept.now c.in-Some.sig.now c.requires.kept c.in-Some.ensures in
    subst (λ z. IfOk c.test_type_by.result (λ o. isa_of ds c.args.value.now z o)) e c.test_type_by.ensures.answer

pub returns-in_ok-fault-in-None-clause-answer : goal.returns-in_ok-fault-in-None-clause-answer
returns-in_ok-fault-in-None-clause-answer c =
    let ds = all_types c.args.ready.now in
    type_broken ds c.args.written.now (isa_rest ds c.args.value.now c.args.written.now) c.in_ok-fault-in-None.fault
    (kept_small ds c.args.written.now c.args.kept.now c.requires.kept (c.is_too_large.ensures.small c.if-is_too_large.false))
    (subst (λ z. is_bad_parameter z (nominals_of c.args.written.now) c.in_ok-fault-in-None.fault) c.table.ensures c.in_ok-fault-in-None.ensures.fault)

pub returns-in_ok-fault-in-None-clause-valid : goal.returns-in_ok-fault-in-None-clause-valid
returns-in_ok-fault-in-None-clause-valid c = named_valid c.args.ready.now c.in_ok-fault-in-None.fault (subst (λ z. IsNamed z c.in_ok-fault-in-None.fault) c.table.ensures c.in_ok-fault-in-None.ensures.named)
