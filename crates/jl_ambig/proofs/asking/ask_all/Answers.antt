use Rattle.std.proofs.Common.{arith}
use Rattle.jl_ambig.proofs.AskLemmas.{next_found, last_found}
use Rattle.jl_ambig.proofs.asking.ask_all.Goals as goal

pub loop-types-preserved : goal.loop-types-preserved
loop-types-preserved c = record {
  known = c.in_ok-ask.ensures.known;
  found = λ es f n done long asked h.
      (let i = c.loop-types.types-index in
      next_found c.args.ready.now es f n c.args.lists.now c.args.defs.now c.args.dels.now done i c.types-item.result c.loop-types-test.true c.types-item.is long asked c.loop-types.pairs.items c.ask.new.pairs.items
      (λ a k. c.in_ok-ask.ensures.found es f _ a k) (c.loop-types.invariant.found es f n done long asked h));
}

pub returns : goal.returns
returns c = λ es f n done long asked h.
    last_found c.args.ready.now es f n c.args.lists.now c.args.defs.now c.args.dels.now done c.loop-types.types-index (omega (arith, c.loop-types-test.false)) c.loop-types.pairs.items (c.loop-types.invariant.found es f n done long asked h)
