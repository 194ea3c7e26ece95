use Rattle.std.proofs.Common.{◌≡◌, ℕ, Err}
use Rattle.jl_calculus.specs.declared.history.DeleteFault.TheVariants as L
use Rattle.jl_calculus.specs.declared.history.Event.TheVariants.{Del}
use Rattle.jl_book.specs.Passes.{task_in}
use Rattle.jl_runner.proofs.BookLemmas.{made_knowing, made_grew, made_refused, made_deleted, made_absent, world_limit}
use Rattle.jl_runner.proofs.known.Known.delete.Goals as goal

pub invariant_of-self : goal.invariant_of-self
invariant_of-self g c =
    let k = c.self.inside in
    let d = c.delete.ensures in
    made_knowing g.N.Naming.about c.args.self.now k.pass c.delete.new.pass k.first k.site c.self.view_is c.args.book.now c.delete.new.self d.seen c.facts-2.ensures.task
    (λ (n : ℕ). Del (task_in k.pass) c.args.place) c.delete.result d.added d.pass d.refused k.keys c.self.invariant

pub returns-clause-grew : goal.returns-clause-grew
returns-clause-grew g c =
    let k = c.self.inside in
    let d = c.delete.ensures in
    made_grew g.N.Naming.about c.args.self.now k.pass c.delete.new.pass k.first k.site c.self.view_is c.args.book.now c.delete.new.self d.seen c.facts-2.ensures.task
    (λ (n : ℕ). Del (task_in k.pass) c.args.place) c.delete.result d.added d.pass d.refused

pub returns-clause-refused : goal.returns-clause-refused
returns-clause-refused g c =
    let k = c.self.inside in
    let d = c.delete.ensures in
    made_refused g.N.Naming.about c.args.self.now k.pass c.delete.new.pass k.first k.site c.self.view_is c.args.book.now c.delete.new.self d.seen c.facts-2.ensures.task c.delete.result d.refused

pub returns-clause-deleted : goal.returns-clause-deleted
returns-clause-deleted g c =
    let k = c.self.inside in
    let d = c.delete.ensures in
    made_deleted g.N.Naming.about c.args.self.now k.pass c.delete.new.pass k.first k.site c.self.view_is c.args.book.now c.delete.new.self d.seen c.facts-2.ensures.task c.args.place c.delete.result d.added d.pass

pub returns-clause-absent : goal.returns-clause-absent
returns-clause-absent g c =
    let k = c.self.inside in
    let d = c.delete.ensures in
    made_absent g.N.Naming.about c.args.self.now k.pass c.delete.new.pass k.first k.site c.self.view_is c.args.book.now c.delete.new.self d.seen c.facts-2.ensures.task c.args.place c.requires.place c.delete.result L.NoSuchMethod d.refused d.absent

pub returns-clause-limit : goal.returns-clause-limit
returns-clause-limit g c =
    let k = c.self.inside in
    let d = c.delete.ensures in
    world_limit g.N.Naming.about c.args.self.now k.pass c.delete.new.pass k.first k.site c.self.view_is c.args.book.now c.delete.new.self d.seen c.facts-2.ensures.task (c.delete.result ≡ Err L.WorldLimit)
    c.facts.ensures.history.stand d.full.1
