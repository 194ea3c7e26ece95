use Rattle.std.proofs.Common.{map}
use Rattle.jl_program.specs.Prelude.{prelude_numbers}
use Rattle.jl_calculus.specs.declared.history.Change.TheVariants as Ch
use Rattle.jl_causes.proofs.standing.Standing.new.Goals as goal

pub learn_entry-requires : goal.learn_entry-requires
learn_entry-requires c = (map Ch.Def prelude_numbers, c.loop-entry.invariant)

pub loop-entry-preserved : goal.loop-entry-preserved
loop-entry-preserved c = c.in_ok-learn_entry.ensures (map Ch.Def prelude_numbers) c.loop-entry.invariant
