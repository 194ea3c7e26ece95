use Rattle.std.proofs.Common.{◌∙◌}
use Rattle.jl_machine.proofs.Moving.{on_fits, on_settled}
use Rattle.jl_machine.proofs.task.Task.go_often.Goals as goal

pub turn_often-requires : goal.turn_often-requires
turn_often-requires g c = record {
  types = c.often.invariant.types ∙ c.requires.types;
  fits = on_fits _ c.args.first c.args.self.now c.often.work c.often.self c.often.invariant.on c.requires.fits;
  program = c.requires.program;
  settled = on_settled _ c.args.first c.args.self.now c.often.work c.often.self c.often.invariant.on c.requires.settled;
}
