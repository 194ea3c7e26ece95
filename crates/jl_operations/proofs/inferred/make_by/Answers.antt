use Rattle.std.proofs.Common.{◌∙◌, sym, subst}
use Rattle.jl_program.specs.Scope.{all_types}
use Rattle.jl_sig.specs.Prepared.{IsSigOf}
use Rattle.jl_match.specs.KeptRow.{AreConcrete}
use Rattle.jl_operations.proofs.InferLemmas.{types_concrete, found_type, found_none, bare_valid}
use Rattle.jl_operations.proofs.inferred.make_by.Goals as goal

pub applies-requires-clause-sig : goal.applies-requires-clause-sig
applies-requires-clause-sig c = subst (λ z. IsSigOf z c.args.sig.now) (sym c.table-table.ensures) c.requires.sig.kept

pub applies-requires-clause-types : goal.applies-requires-clause-types
applies-requires-clause-types c =
    let e = c.as_slice.ensures.value ∙ c.in_ok-types.ensures in
    subst (λ z. AreConcrete z c.as_slice.result.now) (sym c.table-table.ensures)
    (subst (AreConcrete (all_types c.args.ready.now)) (sym e) (types_concrete (all_types c.args.ready.now) c.valid.ensures.decls c.args.values.now c.requires.values))

pub make_found-requires-clause-ty : goal.make_found-requires-clause-ty
make_found-requires-clause-ty c =
    found_type c.args.ready.now c.valid.ensures c.args.name c.args.values.now c.args.sig.now c.requires.sig c.requires.name c.table-table.result.now c.as_slice.result.now c.in-Some.arguments c.table-table.ensures
    (c.as_slice.ensures.value ∙ c.in_ok-types.ensures) (c.in_ok-found.ensures.applies c.in-Some.arguments c.in-Some.is) (c.in_ok-found.ensures.bindings c.in-Some.arguments c.in-Some.is)

pub returns-in-Some-clause-answer : goal.returns-in-Some-clause-answer
returns-in-Some-clause-answer c = c.make_found.ensures.answer

pub returns-in-Some-clause-valid : goal.returns-in-Some-clause-valid
returns-in-Some-clause-valid c = c.make_found.ensures.valid

pub returns-clause-answer : goal.returns-clause-answer
returns-clause-answer c =
    found_none c.args.ready.now c.valid.ensures c.args.name c.args.values.now c.args.sig.now c.requires.sig c.requires.name c.table-table.result.now c.as_slice.result.now c.in_ok-fault-in-None.fault c.table-table.ensures
    (c.as_slice.ensures.value ∙ c.in_ok-types.ensures) (c.in_ok-found.ensures.none c.in-None.is) c.in_ok-fault-in-None.ensures

pub returns-clause-valid : goal.returns-clause-valid
returns-clause-valid c = bare_valid c.args.ready.now c.valid.ensures c.args.name c.args.values.now c.in_ok-fault-in-None.fault c.requires.name c.requires.values c.in_ok-fault-in-None.ensures
