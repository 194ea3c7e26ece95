use Rattle.std.proofs.Common.{arith}
use Rattle.jl_calculus.specs.Definitions.{HasSite}
use Rattle.jl_subsig.specs.Standing.{AreLeft, left_end}
use Rattle.jl_subsig.proofs.PickLemmas.{goes_whole, every_rest}
use Rattle.jl_subsig.proofs.StandingLemmas.{goes_taken, goes_left}
use Rattle.jl_subsig.proofs.standing.pick_left.Goals as goal

pub last_deletion-requires-clause-site : goal.last_deletion-requires-clause-site
last_deletion-requires-clause-site c = (every_rest (HasSite c.args.ready.now) c.args.defs.now c.loop-def.def-index (record { world = 0; site = 0 }) c.loop-def-test.true c.loop-def.invariant.sites).0

pub loop-def-preserved-then-def-last : goal.loop-def-preserved-then-def-last
loop-def-preserved-then-def-last c =
    let P = c.args.ready.now in
    let defs = c.args.defs.now in record {
      goes_on = goes_taken P c.args.dels.now defs c.loop-def.those.items c.loop-def.def-index c.loop-def-test.true c.loop-def.invariant.goes_on c.in_ok-last.last c.in_ok-last.ensures (omega (arith, c.if-def-last.true));
      sites = (every_rest (HasSite P) defs c.loop-def.def-index (record { world = 0; site = 0 }) c.loop-def-test.true c.loop-def.invariant.sites).1;
    }

pub loop-def-preserved : goal.loop-def-preserved
loop-def-preserved c =
    let P = c.args.ready.now in
    let defs = c.args.defs.now in record {
      goes_on = goes_left P c.args.dels.now defs c.loop-def.those.items c.loop-def.def-index c.loop-def-test.true c.loop-def.invariant.goes_on c.in_ok-last.last c.in_ok-last.ensures (omega (arith, c.if-def-last.false))
          c.push.new.self.items c.in_ok-push.ensures.items;
      sites = (every_rest (HasSite P) defs c.loop-def.def-index (record { world = 0; site = 0 }) c.loop-def-test.true c.loop-def.invariant.sites).1;
    }

pub returns : goal.returns
returns c = goes_whole (AreLeft c.args.ready.now c.args.dels.now) c.args.defs.now c.loop-def.those.items c.loop-def.def-index c.loop-def-test.false left_end c.loop-def.invariant.goes_on
