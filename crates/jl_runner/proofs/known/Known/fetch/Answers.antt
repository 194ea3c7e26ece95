use Rattle.std.proofs.Common.{sym, subst}
use Rattle.jl_world.specs.Views.{Begins}
use Rattle.jl_runner.proofs.AskLemmas.{knowing_met, asked_known, grew_known}
use Rattle.jl_runner.proofs.BookLemmas.{fetched_known, on_err}
use Rattle.jl_runner.proofs.known.Known.fetch.Goals as goal

pub invariant_of-self : goal.invariant_of-self
invariant_of-self g c =
    let k = c.self.inside in
    knowing_met k.pass c.fetch.new.pass k.keys k.first c.fetch.new.self c.fetch.ensures.pass (subst (Begins k.pass.seen) (sym c.fetch.ensures.book) c.fetch.ensures.seen) c.self.invariant

pub returns-clause-grew : goal.returns-clause-grew
returns-clause-grew g c =
    let k = c.self.inside in
    grew_known g.N.Naming.about c.args.self.now k.pass c.fetch.new.pass k.first k.site c.self.view_is k.site c.fetch.new.self c.fetch.ensures.pass
    (subst (Begins k.pass.seen) (sym c.fetch.ensures.book) c.fetch.ensures.seen)

pub returns-clause-fetched : goal.returns-clause-fetched
returns-clause-fetched g c =
    let k = c.self.inside in
    fetched_known c.fetch.result g.N.Naming.about c.args.self.now k.pass c.fetch.new.pass k.first k.site c.self.view_is c.fetch.new.self c.fetch.ensures.pass c.args.task c.fetch.ensures.item

pub returns-clause-refused : goal.returns-clause-refused
returns-clause-refused g c =
    let k = c.self.inside in
    on_err c.fetch.result
    (asked_known g.N.Naming.about c.args.self.now k.pass c.fetch.new.pass k.first k.site c.self.view_is k.site c.fetch.new.self c.fetch.ensures.pass
    (subst (Begins k.pass.seen) (sym c.fetch.ensures.book) c.fetch.ensures.seen))
