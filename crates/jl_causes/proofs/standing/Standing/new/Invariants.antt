use Rattle.std.proofs.Common.{map}
use Rattle.jl_program.specs.Prelude.{prelude_numbers}
use Rattle.jl_calculus.specs.declared.history.Change.TheVariants as Ch
use Rattle.jl_causes.specs.Stands.{AreStanding}
use Rattle.jl_causes.proofs.standing.Standing.new.Given as goal

abbrev pub invariant-loop-entry : goal.invariant-loop-entry
invariant-loop-entry l = AreStanding l.ready (map Ch.Def prelude_numbers) l.standing
