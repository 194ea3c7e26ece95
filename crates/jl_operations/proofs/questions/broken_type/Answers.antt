use Rattle.std.proofs.Common.{◌∙◌, ap, ◌++◌}
use Rattle.jl_operations.proofs.QuestionLemmas.{listed, one_fit, one_has, one_fault}
use Rattle.jl_operations.proofs.questions.broken_type.Goals as goal

pub bad_parameter-requires-clause-fit : goal.bad_parameter-requires-clause-fit
bad_parameter-requires-clause-fit c =
    let s = c.args.written.now in
    let e = c.as_slice.ensures.value ∙ c.in_ok-push_parts.ensures ∙ ap (λ z. z ++ listed c.args.table.now s) c.new-types.ensures.items in
    one_fit c.args.table.now c.valid.ensures s c.as_slice.result.now e c.requires.body c.requires.small

pub bad_parameter-requires-clause-broken : goal.bad_parameter-requires-clause-broken
bad_parameter-requires-clause-broken c =
    let s = c.args.written.now in
    let e = c.as_slice.ensures.value ∙ c.in_ok-push_parts.ensures ∙ ap (λ z. z ++ listed c.args.table.now s) c.new-types.ensures.items in
    one_has c.args.table.now s c.as_slice.result.now e c.requires.broken

pub returns-clause-fault : goal.returns-clause-fault
returns-clause-fault c =
    let s = c.args.written.now in
    let e = c.as_slice.ensures.value ∙ c.in_ok-push_parts.ensures ∙ ap (λ z. z ++ listed c.args.table.now s) c.new-types.ensures.items in
    one_fault c.args.table.now s c.as_slice.result.now c.in_ok-fault.fault e c.in_ok-fault.ensures.fault

pub returns-clause-named : goal.returns-clause-named
returns-clause-named c = c.in_ok-fault.ensures.named
