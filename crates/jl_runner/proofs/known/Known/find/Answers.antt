use Rattle.jl_runner.proofs.AskLemmas.{knowing_met, asked_known, hit_known}
use Rattle.jl_runner.proofs.known.Known.find.Goals as goal

pub invariant_of-self : goal.invariant_of-self
invariant_of-self g c =
    let k = c.self.inside in
    knowing_met k.pass c.find.new.self k.keys k.first c.find.new.self.seen c.find.ensures.same c.find.ensures.seen c.self.invariant

pub invariant_of-self-in-Miss : goal.invariant_of-self-in-Miss
invariant_of-self-in-Miss g c =
    let k = c.self.inside in
    knowing_met k.pass c.find.new.self k.keys k.first c.find.new.self.seen c.find.ensures.same c.find.ensures.seen c.self.invariant

pub returns-in-Hit-clause-asked : goal.returns-in-Hit-clause-asked
returns-in-Hit-clause-asked g c =
    let k = c.self.inside in
    asked_known g.N.Naming.about c.args.self.now k.pass c.find.new.self k.first k.site c.self.view_is c.in-Hit.site c.find.new.self.seen c.find.ensures.same c.find.ensures.seen

pub returns-in-Hit-clause-found : goal.returns-in-Hit-clause-found
returns-in-Hit-clause-found g c =
    let k = c.self.inside in
    hit_known g.N.Naming.about c.args.self.now k.pass c.find.new.self k.first k.site c.self.view_is c.args.key.now c.args.number c.args.world c.in-Hit.site c.requires.world c.requires.named c.find.ensures.seen
    c.in-Hit.ensures.found

pub returns-in-Miss-clause-asked : goal.returns-in-Miss-clause-asked
returns-in-Miss-clause-asked g c =
    let k = c.self.inside in
    asked_known g.N.Naming.about c.args.self.now k.pass c.find.new.self k.first k.site c.self.view_is k.site c.find.new.self.seen c.find.ensures.same c.find.ensures.seen
