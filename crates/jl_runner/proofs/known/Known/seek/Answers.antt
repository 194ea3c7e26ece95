use Rattle.jl_runner.specs.Knowing.{knows_of}
use Rattle.jl_runner.proofs.LiveLemmas.{named_asked, world_asked, asked_more, right_asked}
use Rattle.jl_runner.proofs.known.Known.seek.Goals as goal

pub resolve-requires-clause-named : goal.resolve-requires-clause-named
resolve-requires-clause-named g c =
    named_asked g.N.Naming.about c.args.self.now c.find.new.self c.find.ensures.asked c.args.number c.in-Some.miss.key c.args.key.now c.in-Some.ensures.found.0 c.requires.named

pub resolve-requires-clause-world : goal.resolve-requires-clause-world
resolve-requires-clause-world g c =
    world_asked g.N.Naming.about c.args.self.now c.find.new.self c.find.ensures.asked c.args.world c.in-Some.miss.world c.in-Some.ensures.found.1 c.requires.world

pub returns-in-Some-clause-asked : goal.returns-in-Some-clause-asked
returns-in-Some-clause-asked g c = asked_more g.N.Naming.about c.args.self.now c.find.new.self c.find.ensures.asked c.resolve.new.self c.resolve.ensures.asked

pub returns-in-Some-clause-right : goal.returns-in-Some-clause-right
returns-in-Some-clause-right g c =
    right_asked c.resolve.result (knows_of g.N.Naming.about c.resolve.new.self) c.args.key.now.function c.args.key.now.types c.in-Some.miss.world c.args.world c.in-Some.ensures.found.1 c.resolve.ensures.right
