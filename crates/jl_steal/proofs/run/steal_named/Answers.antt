use Rattle.std.proofs.Common.{arith}
use Rattle.jl_steal.proofs.run.steal_named.Goals as goal

pub run_all-requires-after_bounds : goal.run_all-requires-after_bounds
run_all-requires-after_bounds g c κs within = let workers = c.requires.setup.workers in omega (arith, workers.some)
