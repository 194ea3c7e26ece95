use Rattle.std.proofs.Common.{◌<◌, arith}
use Rattle.jl_machine.proofs.Stepping.{lent_spent, lent_deep, lent_recalled, recalled_below}
use Rattle.jl_machine.proofs.TakenLemmas.{recalled_taken}
use Rattle.jl_machine.proofs.task.Task.call.Goals as goal

pub perform-requires-clause-there : goal.perform-requires-clause-there
perform-requires-clause-there g c = recalled_below _ c.args.ready.now c.args.function c.args.world c.in-Some.found.site _ _ c.requires.program c.in-Some.ensures

pub perform-requires-clause-taken : goal.perform-requires-clause-taken
perform-requires-clause-taken g c =
    recalled_taken _ _ c.args.function c.args.world c.in-Some.found.site _ c.open_values.result.now _ c.open_values.ensures c.requires.fits c.in-Some.ensures

pub returns-then-self : goal.returns-then-self
returns-then-self g c = lent_spent _ c.args.self.now c.args.function c.args.world c.requires.fits c.end_spent.result c.end_spent.new.now c.end_spent.ensures c.if-self.true

pub returns-then-self-eq0 : goal.returns-then-self-eq0
returns-then-self-eq0 g c =
    lent_deep _ c.args.self.now c.args.function c.args.world c.requires.fits c.end_deep.result c.end_deep.new.now c.end_deep.ensures c.if-self.false c.if-self-eq0.true

pub returns-in-Some : goal.returns-in-Some
returns-in-Some g c =
    let some : 0 < c.args.self.now.now.room = omega arith in
    lent_recalled _ c.args.self.now c.args.function c.args.world c.requires.fits c.perform.result c.args.ready.now c.in-Some.found.site c.in-Some.found.statics.now c.perform.new.now c.open_values.result.now c.if-self.false some c.requires.program c.open_values.ensures c.in-Some.ensures c.perform.ensures
