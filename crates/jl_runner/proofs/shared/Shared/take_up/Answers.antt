use Rattle.std.proofs.Common.{sym, subst}
use Rattle.jl_runner.specs.Working.{WorksFor}
use Rattle.jl_runner.proofs.shared.Shared.take_up.Goals as goal

pub returns-in-Waiting : goal.returns-in-Waiting
returns-in-Waiting g c = subst (WorksFor g.N.Naming.about c.into_parts-machine.result.0) (sym c.live.ensures) c.into_parts-machine.ensures
