use Rattle.std.proofs.Common.{ap, sym, subst}
use Rattle.jl_runner.specs.Working.{WorksFor}
use Rattle.jl_runner.proofs.WorkLemmas.{turns_fit, turns_leave}
use Rattle.jl_runner.proofs.shared.Shared.run_task.Goals as goal

pub run_turns-requires-clause-fits : goal.run_turns-requires-clause-fits
run_turns-requires-clause-fits g c =
    turns_fit g.N.Naming.about c.args.self.now.ready.now c.args.self.now.fuel c.args.machine c.args.with.known c.args.self.now.program_is c.args.self.now.fuel_is c.requires

pub finish-requires-clause-works : goal.finish-requires-clause-works
finish-requires-clause-works g c κs within =
    subst (WorksFor g.N.Naming.about c.run_turns.new.machine) (sym (ap (λ l. l.known) c.into_inner.ensures))
    (turns_leave g.N.Naming.about c.args.self.now.ready.now c.args.self.now.fuel c.run_turns.new.machine c.run_turns.new.with.known c.args.self.now.program_is c.args.self.now.fuel_is c.in-Ok-Ended.ensures.fits
    c.in-Ok-Ended.ensures.fuel)

pub set_aside-requires : goal.set_aside-requires
set_aside-requires g c =
    subst (WorksFor g.N.Naming.about c.run_turns.new.machine) (sym (ap (λ l. l.known) c.into_inner-in-Ok-Waits.ensures))
    (turns_leave g.N.Naming.about c.args.self.now.ready.now c.args.self.now.fuel c.run_turns.new.machine c.run_turns.new.with.known c.args.self.now.program_is c.args.self.now.fuel_is c.in-Ok-Waits.ensures.fits
    c.in-Ok-Waits.ensures.fuel)

pub hand_out-requires : goal.hand_out-requires
hand_out-requires g c =
    subst (WorksFor g.N.Naming.about c.run_turns.new.machine) (sym (ap (λ l. l.known) c.into_inner-in-Ok-Spawned.ensures))
    (turns_leave g.N.Naming.about c.args.self.now.ready.now c.args.self.now.fuel c.run_turns.new.machine c.run_turns.new.with.known c.args.self.now.program_is c.args.self.now.fuel_is c.in-Ok-Spawned.ensures.fits
    c.in-Ok-Spawned.ensures.fuel)
