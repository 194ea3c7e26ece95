use Rattle.std.proofs.Common.{◌<◌, Ok, refl, arith}
use Rattle.jl_machine.proofs.Stepping.{lent_recalled, recalled_below}
use Rattle.jl_machine.proofs.TakenLemmas.{recalled_taken}
use Rattle.jl_machine.proofs.Moving.{alone}
use Rattle.jl_machine.proofs.task.Task.recall_types.Goals as goal

pub perform-requires-clause-there : goal.perform-requires-clause-there
perform-requires-clause-there g c = recalled_below _ c.args.ready.now c.args.function c.args.world c.in-Some.found.site _ _ c.requires.program c.in-Some.ensures

pub perform-requires-clause-taken : goal.perform-requires-clause-taken
perform-requires-clause-taken g c =
    recalled_taken _ _ c.args.function c.args.world c.in-Some.found.site _ c.open_values.result.now _ c.open_values.ensures c.requires.fits c.in-Some.ensures

pub returns-in_ok-work-in-Some : goal.returns-in_ok-work-in-Some
returns-in_ok-work-in-Some g c =
    let some : 0 < c.args.self.now.now.room = omega arith in
    alone _ _ _ _ _
    (lent_recalled _ c.args.self.now c.args.function c.args.world c.requires.fits (Ok c.in_ok-work-in-Some.work) c.args.ready.now c.in-Some.found.site c.in-Some.found.statics.now c.perform.new.now c.open_values.result.now c.if-self.false some c.requires.program c.open_values.ensures c.in-Some.ensures c.in_ok-work-in-Some.ensures)
    refl
