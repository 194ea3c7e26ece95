use Rattle.std.proofs.Common.{◌∙◌, ap, ◌++◌}
use Rattle.jl_operations.proofs.QuestionLemmas.{listed, pair_fit, pair_has, pair_fault}
use Rattle.jl_operations.proofs.questions.broken_pair.Goals as goal

pub bad_parameter-requires-clause-fit : goal.bad_parameter-requires-clause-fit
bad_parameter-requires-clause-fit c =
    let s = c.args.left.now in
    let t = c.args.right.now in
    let ds = c.args.table.now in
    let e = c.as_slice.ensures.value ∙ c.in_ok-push_parts-2.ensures ∙ ap (λ z. z ++ listed ds t) (c.in_ok-push_parts.ensures ∙ ap (λ z. z ++ listed ds s) c.new-types.ensures.items) in
    pair_fit ds c.valid.ensures s t c.as_slice.result.now e c.requires.left c.requires.right c.requires.left_small c.requires.right_small

pub bad_parameter-requires-clause-broken : goal.bad_parameter-requires-clause-broken
bad_parameter-requires-clause-broken c =
    let s = c.args.left.now in
    let t = c.args.right.now in
    let ds = c.args.table.now in
    let e = c.as_slice.ensures.value ∙ c.in_ok-push_parts-2.ensures ∙ ap (λ z. z ++ listed ds t) (c.in_ok-push_parts.ensures ∙ ap (λ z. z ++ listed ds s) c.new-types.ensures.items) in
    pair_has ds s t c.as_slice.result.now e c.requires.broken

pub returns-clause-fault : goal.returns-clause-fault
returns-clause-fault c =
    let s = c.args.left.now in
    let t = c.args.right.now in
    let ds = c.args.table.now in
    let e = c.as_slice.ensures.value ∙ c.in_ok-push_parts-2.ensures ∙ ap (λ z. z ++ listed ds t) (c.in_ok-push_parts.ensures ∙ ap (λ z. z ++ listed ds s) c.new-types.ensures.items) in
    pair_fault ds s t c.as_slice.result.now c.in_ok-fault.fault e c.in_ok-fault.ensures.fault

pub returns-clause-named : goal.returns-clause-named
returns-clause-named c = c.in_ok-fault.ensures.named
