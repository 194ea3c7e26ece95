use Rattle.std.proofs.Common.{◌≡◌, ℕ, Err}
use Rattle.jl_calculus.specs.declared.history.DefineFault.TheVariants as D
use Rattle.jl_calculus.specs.declared.history.Event.TheVariants.{Def}
use Rattle.jl_book.specs.Passes.{task_in}
use Rattle.jl_runner.proofs.BookLemmas.{made_knowing, made_grew, made_refused, made_defined, world_limit}
use Rattle.jl_runner.proofs.known.Known.define.Goals as goal

pub invariant_of-self : goal.invariant_of-self
invariant_of-self g c =
    let k = c.self.inside in
    let d = c.define.ensures in
    made_knowing g.N.Naming.about c.args.self.now k.pass c.define.new.pass k.first k.site c.self.view_is c.args.book.now c.define.new.self d.seen c.facts-2.ensures.task
    (λ (n : ℕ). Def (task_in k.pass) c.args.site) c.define.result d.added d.pass d.refused k.keys c.self.invariant

pub returns-clause-grew : goal.returns-clause-grew
returns-clause-grew g c =
    let k = c.self.inside in
    let d = c.define.ensures in
    made_grew g.N.Naming.about c.args.self.now k.pass c.define.new.pass k.first k.site c.self.view_is c.args.book.now c.define.new.self d.seen c.facts-2.ensures.task
    (λ (n : ℕ). Def (task_in k.pass) c.args.site) c.define.result d.added d.pass d.refused

pub returns-clause-refused : goal.returns-clause-refused
returns-clause-refused g c =
    let k = c.self.inside in
    let d = c.define.ensures in
    made_refused g.N.Naming.about c.args.self.now k.pass c.define.new.pass k.first k.site c.self.view_is c.args.book.now c.define.new.self d.seen c.facts-2.ensures.task c.define.result d.refused

pub returns-clause-defined : goal.returns-clause-defined
returns-clause-defined g c =
    let k = c.self.inside in
    let d = c.define.ensures in
    made_defined g.N.Naming.about c.args.self.now k.pass c.define.new.pass k.first k.site c.self.view_is c.args.book.now c.define.new.self d.seen c.facts-2.ensures.task c.args.site c.define.result d.added d.pass

pub returns-clause-limit : goal.returns-clause-limit
returns-clause-limit g c =
    let k = c.self.inside in
    let d = c.define.ensures in
    world_limit g.N.Naming.about c.args.self.now k.pass c.define.new.pass k.first k.site c.self.view_is c.args.book.now c.define.new.self d.seen c.facts-2.ensures.task (c.define.result ≡ Err D.WorldLimit)
    c.facts.ensures.history.stand d.full.1
