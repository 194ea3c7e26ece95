use Rattle.std.proofs.Common.{false}
use Rattle.jl_calculus.specs.declared.history.Change.TheVariants as Ch
use Rattle.jl_core.specs.Flags.{def_in}
use Rattle.jl_core.proofs.PickedLemmas.{picked_skip}
use Rattle.jl_core.proofs.picked.defs_of.Goals as goal

pub loop-i-preserved-then-not-flags-i : goal.loop-i-preserved-then-not-flags-i
loop-i-preserved-then-not-flags-i c =
    picked_skip def_in c.loop-i.defs.items c.args.made.now c.args.flags.now c.loop-i.i (Ch.Def 0) false c.loop-i-test.true c.requires.long c.if-not-flags-i.true c.loop-i.invariant
