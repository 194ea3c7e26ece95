use Rattle.std.proofs.Common.{ap, arith}
use Rattle.jl_world.specs.declared.view.TaskView.{TaskView}
use Rattle.store_tests.proofs.KeyLemmas.{still_there}
use Rattle.store_tests.proofs.asks.select.Goals as goal

pub select-requires-clause-world : goal.select-requires-clause-world
select-requires-clause-world g c =
    let there = still_there c.look-world.new.self.seen c.args.book.now c.key.new.self c.key.new.pass.seen c.in-Err-KeysFull.ensures.seen c.in-Err-KeysFull.ensures.refused (ap (λ (v : TaskView). v.seen) c.in-Err-KeysFull.ensures.pass) in
    (c.if-world-lt-FIRST_WORLD.false, omega (arith, c.look-world.ensures.world, there))
