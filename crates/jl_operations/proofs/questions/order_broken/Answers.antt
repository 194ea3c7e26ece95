use Rattle.std.proofs.Common.{sym, subst, ◌++◌, ◌⊎◌}
use Rattle.jl_model.specs.SigRefusals.{TypeLimit, BoundBroken}
use Rattle.jl_program.specs.Scope.{all_types}
use Rattle.jl_calculus.specs.Statics.{nominals_of, is_bad_parameter}
use Rattle.jl_operations.specs.Bodies.{IsBodySig}
use Rattle.jl_operations.specs.Broken.{IsNamed}
use Rattle.jl_operations.proofs.QuestionLemmas.{named_valid, order_broken}
use Rattle.jl_operations.proofs.questions.order_broken.Goals as goal

pub broken_pair-requires-clause-left : goal.broken_pair-requires-clause-left
broken_pair-requires-clause-left c = subst (λ z. IsBodySig z c.args.left.now) (sym c.table.ensures) c.requires.left

pub broken_pair-requires-clause-right : goal.broken_pair-requires-clause-right
broken_pair-requires-clause-right c = subst (λ z. IsBodySig z c.args.right.now) (sym c.table.ensures) c.requires.right

pub broken_pair-requires-clause-left_small : goal.broken_pair-requires-clause-left_small
broken_pair-requires-clause-left_small c = subst (λ z. TypeLimit z c.args.left.now → ⊥) (sym c.table.ensures) c.requires.left_small

pub broken_pair-requires-clause-right_small : goal.broken_pair-requires-clause-right_small
broken_pair-requires-clause-right_small c = subst (λ z. TypeLimit z c.args.right.now → ⊥) (sym c.table.ensures) c.requires.right_small

pub broken_pair-requires-clause-broken : goal.broken_pair-requires-clause-broken
broken_pair-requires-clause-broken c = subst (λ z. BoundBroken z c.args.left.now ⊎ BoundBroken z c.args.right.now) (sym c.table.ensures) c.requires.broken

pub returns-clause-answer : goal.returns-clause-answer
returns-clause-answer c =
    order_broken (all_types c.args.ready.now) c.args.left.now c.args.right.now c.in_ok-fault.fault c.requires.left_small c.requires.right_small
    (subst (λ z. is_bad_parameter z (nominals_of c.args.left.now ++ nominals_of c.args.right.now) c.in_ok-fault.fault) c.table.ensures c.in_ok-fault.ensures.fault)

pub returns-clause-valid : goal.returns-clause-valid
returns-clause-valid c = named_valid c.args.ready.now c.in_ok-fault.fault (subst (λ z. IsNamed z c.in_ok-fault.fault) c.table.ensures c.in_ok-fault.ensures.named)
