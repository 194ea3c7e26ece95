use Rattle.std.proofs.Common.{sym, subst}
use Rattle.jl_program.specs.Scope.{all_types}
use Rattle.jl_sig.specs.Prepared.{IsSigOf}
use Rattle.jl_sig.specs.SigParts.{written_of}
use Rattle.jl_operations.proofs.QuestionLemmas.{order_answer}
use Rattle.jl_operations.proofs.questions.test_order_by.Goals as goal

pub sig_sub-requires-clause-left : goal.sig_sub-requires-clause-left
sig_sub-requires-clause-left c = subst (λ z. IsSigOf z c.args.left.now) (sym c.table.ensures) c.requires.left.kept

pub sig_sub-requires-clause-right : goal.sig_sub-requires-clause-right
sig_sub-requires-clause-right c = subst (λ z. IsSigOf z c.args.right.now) (sym c.table.ensures) c.requires.right.kept

pub returns-clause-answer : goal.returns-clause-answer
returns-clause-answer c =
    order_answer (all_types c.args.ready.now) c.table.result.now (written_of c.args.left.now) (written_of c.args.right.now) c.in_ok-below.below c.truth.result c.table.ensures c.requires.left.allowed c.requires.right.allowed
    c.in_ok-below.ensures c.truth.ensures.value

pub returns-clause-valid : goal.returns-clause-valid
returns-clause-valid c = c.truth.ensures.valid c.args.ready.now
