use Rattle.jl_work.proofs.LineLemmas.{pairs_told}
use Rattle.jl_work.proofs.telling.ambiguities.Goals as goal

pub returns : goal.returns
returns c =
    pairs_told c.args.ready.now c.args.history.now.events c.as_slice-events.result.now c.in_ok-pairs.pairs.items c.as_slice-found.result.now c.in_ok-left.left.items c.as_slice-others.result.now c.in_ok-text.text
    c.as_slice-events.ensures c.as_slice-found.ensures.value c.as_slice-others.ensures.value c.in_ok-pairs.ensures c.in_ok-left.ensures c.in_ok-text.ensures
