use Rattle.jl_choosing.proofs.PickLemmas.{goes_apart, goes_picked, goes_whole, sites_rest}
use Rattle.jl_choosing.proofs.choosing.find_applicable.Goals as goal

pub loop-def-preserved-then-not-branch : goal.loop-def-preserved-then-not-branch
loop-def-preserved-then-not-branch c =
    let P = c.args.ready.now in
    let defs = c.args.defs.now in record {
      goes_on = goes_apart P c.args.types.now defs c.loop-def.those.items c.loop-def.def-index c.loop-def-test.true c.loop-def.invariant.goes_on (c.in_ok-is_applicable.ensures.none c.if-not-branch.true);
      sites = sites_rest P c.args.types.now defs c.loop-def.those.items c.loop-def.def-index c.loop-def-test.true c.loop-def.invariant.sites;
    }

pub loop-def-preserved : goal.loop-def-preserved
loop-def-preserved c =
    let P = c.args.ready.now in
    let defs = c.args.defs.now in record {
      goes_on = goes_picked P c.args.types.now defs c.loop-def.those.items c.loop-def.def-index c.loop-def-test.true c.loop-def.invariant.goes_on (c.in_ok-is_applicable.ensures.yes c.if-not-branch.false)
          c.push.new.self.items c.in_ok-push.ensures.items;
      sites = sites_rest P c.args.types.now defs c.loop-def.those.items c.loop-def.def-index c.loop-def-test.true c.loop-def.invariant.sites;
    }

pub returns : goal.returns
returns c = goes_whole c.args.ready.now c.args.types.now c.args.defs.now c.loop-def.those.items c.loop-def.def-index c.loop-def-test.false c.loop-def.invariant.goes_on
