use Rattle.std.proofs.Common.{◌∙◌, ap}
use Rattle.jl_runner.specs.declared.known.Knowing.{Knowing}
use Rattle.jl_runner.proofs.WorkLemmas.{new_works}
use Rattle.jl_runner.proofs.shared.Shared.begin.Goals as goal

pub returns-in-Ok : goal.returns-in-Ok
returns-in-Ok g c =
    new_works g.N.Naming.about c.live-live.result.known c.into_parts-pass.result.0 c.into_parts-pass.result.1 c.args.self.now.ready.now c.args.self.now.fuel c.in-Ok.machine
    (ap (λ (u : Knowing). u.view) c.live-live.ensures ∙ c.begin.ensures.view)
    (ap (λ (u : Knowing). u.first) c.live-live.ensures ∙ c.begin.ensures.first) c.into_parts-pass.ensures.new c.args.self.now.program_is c.args.self.now.fuel_is c.valid.ensures c.law_new_machine.ensures.root
    c.law_new_machine.ensures.task c.in-Ok.ensures
