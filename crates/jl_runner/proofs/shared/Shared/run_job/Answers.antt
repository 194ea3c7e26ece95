use Rattle.std.proofs.Common.{ap, sym, subst}
use Rattle.jl_runner.specs.Working.{WorksFor}
use Rattle.jl_runner.proofs.shared.Shared.run_job.Goals as goal

pub run_task-requires-after_bounds : goal.run_task-requires-after_bounds
run_task-requires-after_bounds g c κs within = subst (WorksFor g.N.Naming.about c.in-Ok.machine) (sym (ap (λ l. l.known) c.in-Ok-new.ensures)) c.in-Ok.ensures
