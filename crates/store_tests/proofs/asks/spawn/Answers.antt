use Rattle.std.proofs.Common.{subst, sym}
use Rattle.jl_calculus.specs.ValidStart.{IsValidStart}
use Rattle.store_tests.proofs.asks.spawn.Goals as goal

pub spawn-requires-clause-valid : goal.spawn-requires-clause-valid
spawn-requires-clause-valid g c = subst (IsValidStart g.N.Naming.about.program.value) (sym c.make_start-start.ensures) c.requires.start
