use Rattle.std.proofs.Common.{refl, subst}
use Rattle.jl_runner.specs.Knowing.{IsNumberOf}
use Rattle.jl_runner.proofs.LiveLemmas.{world_asked, asked_more}
use Rattle.jl_runner.proofs.known.Known.ask.Goals as goal

pub choose-requires-clause-full : goal.choose-requires-clause-full
choose-requires-clause-full g c = subst (IsNumberOf g.N.Naming.about c.learn.new.self.view.seen c.args.key.now) c.in-None.is c.in_ok-number.ensures.number

pub choose-requires-clause-world : goal.choose-requires-clause-world
choose-requires-clause-world g c = world_asked g.N.Naming.about c.args.self.now c.learn.new.self c.learn.ensures.asked c.args.world c.args.world refl c.requires.world

pub returns-in-None-clause-asked : goal.returns-in-None-clause-asked
returns-in-None-clause-asked g c = asked_more g.N.Naming.about c.args.self.now c.learn.new.self c.learn.ensures.asked c.choose.new.self c.choose.ensures.asked

pub seek-requires-clause-named : goal.seek-requires-clause-named
seek-requires-clause-named g c = subst (IsNumberOf g.N.Naming.about c.learn.new.self.view.seen c.args.key.now) c.in-Some.is c.in_ok-number.ensures.number

pub seek-requires-clause-world : goal.seek-requires-clause-world
seek-requires-clause-world g c = world_asked g.N.Naming.about c.args.self.now c.learn.new.self c.learn.ensures.asked c.args.world c.args.world refl c.requires.world

pub returns-in-Some-clause-asked : goal.returns-in-Some-clause-asked
returns-in-Some-clause-asked g c = asked_more g.N.Naming.about c.args.self.now c.learn.new.self c.learn.ensures.asked c.seek.new.self c.seek.ensures.asked
