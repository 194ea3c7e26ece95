use Rattle.jl_runner.proofs.WorkLemmas.{ends_so}
use Rattle.jl_runner.proofs.shared.Shared.finish.Goals as goal

pub enter_end-requires-after_bounds : goal.enter_end-requires-after_bounds
enter_end-requires-after_bounds g c κs within =
    ends_so g.N.Naming.about c.args.live.known c.into_pass-pass.result c.args.machine c.in-Ok.ended c.requires.works c.in-Ok.ensures c.law_ended_machine.ensures c.into_pass-pass.ensures.pass c.facts.ensures c.into_pass-pass.ensures.begun
