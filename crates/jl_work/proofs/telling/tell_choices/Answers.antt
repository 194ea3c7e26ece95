use Rattle.jl_work.proofs.LineLemmas.{spans_told}
use Rattle.jl_work.proofs.telling.tell_choices.Goals as goal

pub returns : goal.returns
returns c =
    λ question means.
    spans_told c.args.ready.now c.args.history.now.events c.as_slice-events.result.now c.args.key.now c.in_ok-spans.spans.items c.as_slice-found.result.now c.in_ok-text.text question
    c.as_slice-events.ensures c.as_slice-found.ensures.value c.in_ok-spans.ensures c.in_ok-text.ensures means
