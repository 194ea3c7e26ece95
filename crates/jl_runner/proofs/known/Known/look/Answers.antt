use Rattle.jl_runner.proofs.AskLemmas.{knowing_looked, looked_known}
use Rattle.jl_runner.proofs.known.Known.look.Goals as goal

pub invariant_of-self : goal.invariant_of-self
invariant_of-self g c =
    let k = c.self.inside in
    knowing_looked k.pass c.look.new.self k.keys k.first c.look.ensures.same c.look.ensures.seen.0 c.self.invariant

pub returns : goal.returns
returns g c =
    let k = c.self.inside in
    looked_known g.N.Naming.about c.args.self.now k.pass c.look.new.self k.first k.site c.self.view_is c.look.result.world c.look.result.length c.look.ensures.same c.look.ensures.seen.0 c.look.ensures.item c.look.ensures.world
    c.look.ensures.seen.1
