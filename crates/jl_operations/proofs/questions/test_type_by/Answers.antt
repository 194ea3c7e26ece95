use Rattle.std.proofs.Common.{sym, subst, ap, ◌∙◌, ◌∷◌, []}
use Rattle.jl_program.specs.Scope.{all_types}
use Rattle.jl_sig.specs.Prepared.{IsSigOf}
use Rattle.jl_sig.specs.SigParts.{written_of}
use Rattle.jl_match.specs.KeptRow.{AreConcrete}
use Rattle.jl_operations.proofs.QuestionLemmas.{isa_answer, one_concrete}
use Rattle.jl_operations.proofs.questions.test_type_by.Goals as goal

pub applies-requires-clause-sig : goal.applies-requires-clause-sig
applies-requires-clause-sig c = subst (λ z. IsSigOf z c.args.sig.now) (sym c.table-table.ensures) c.requires.sig.kept

pub applies-requires-clause-types : goal.applies-requires-clause-types
applies-requires-clause-types c =
    subst (λ z. AreConcrete z c.as_slice.result.now) (sym c.table-table.ensures)
    (one_concrete (all_types c.args.ready.now) c.valid.ensures.decls c.args.value.now c.type_of.result.now c.in_ok-copy.field-0 c.as_slice.result.now c.requires.value c.in_ok-copy.ensures c.type_of.ensures c.as_slice.ensures)

pub returns-clause-answer : goal.returns-clause-answer
returns-clause-answer c =
    isa_answer (all_types c.args.ready.now) c.table-table.result.now (written_of c.args.sig.now) c.args.value.now c.as_slice.result.now c.in_ok-found.found c.is_some.result c.truth.result c.table-table.ensures
    (c.as_slice.ensures ∙ ap (λ z. z ∷ []) (c.in_ok-copy.ensures ∙ c.type_of.ensures)) c.requires.sig.allowed c.in_ok-found.ensures.applies c.in_ok-found.ensures.none c.is_some.ensures c.truth.ensures.value

pub returns-clause-valid : goal.returns-clause-valid
returns-clause-valid c = c.truth.ensures.valid c.args.ready.now
