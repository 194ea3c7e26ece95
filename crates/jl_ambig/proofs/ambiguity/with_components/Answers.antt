use Rattle.std.proofs.Common.{arith}
use Rattle.jl_calculus.specs.Definitions.{HasSite}
use Rattle.jl_subsig.proofs.PickLemmas.{every_rest}
use Rattle.jl_ambig.proofs.AskLemmas.{picked_more}
use Rattle.jl_ambig.proofs.ambiguity.with_components.Goals as goal

pub loop-def-preserved : goal.loop-def-preserved
loop-def-preserved c =
    let P = c.args.ready.now in
    let defs = c.args.defs.now in record {
      picked = picked_more P c.args.count defs c.loop-def.def-index (record { world = 0; site = 0 }) c.loop-def.those.items c.push.new.self.items c.loop-def-test.true (grind (arith, c.components-parts.ensures, c.if-parts-count.false))
          c.in_ok-push.ensures.items c.loop-def.invariant.picked;
      sites = (every_rest (HasSite P) defs c.loop-def.def-index (record { world = 0; site = 0 }) c.loop-def-test.true c.loop-def.invariant.sites).1;
    }
