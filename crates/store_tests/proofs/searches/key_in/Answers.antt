use Rattle.std.proofs.Common.{ap, arith}
use Rattle.jl_world.specs.declared.view.TaskView.{TaskView}
use Rattle.store_tests.proofs.KeyLemmas.{known}
use Rattle.store_tests.proofs.searches.key_in.Goals as goal

pub returns-clause-key : goal.returns-clause-key
returns-clause-key g c =
    known c.key.new.self c.key.new.pass.seen c.look-newest.new.self.seen c.in-Ok.number c.args.key.now c.in-Ok.ensures.named (ap (λ (v : TaskView). v.seen) c.in-Ok.ensures.pass) c.look-newest.ensures.seen.0

pub returns-clause-world : goal.returns-clause-world
returns-clause-world g c = (c.if-world-lt-FIRST_WORLD.false, omega (arith, c.if-newest-world.false, c.look-newest.ensures.world))
