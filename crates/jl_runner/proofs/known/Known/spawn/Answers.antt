use Rattle.std.proofs.Common.{◌≡◌, ℕ, Err, subst}
use Rattle.jl_calculus.specs.declared.history.Event.TheVariants.{Spawn}
use Rattle.jl_calculus.specs.declared.history.SpawnFault.TheVariants as S
use Rattle.jl_world.specs.declared.view.TaskView.{TaskView}
use Rattle.jl_world.specs.Views.{Begins}
use Rattle.jl_book.proofs.Counting.{few_tasks}
use Rattle.jl_book.specs.Passes.{task_in}
use Rattle.jl_runner.specs.declared.known.Knowing.{Knowing}
use Rattle.jl_runner.proofs.BookLemmas.{made_knowing, made_grew, made_refused, made_spawned, spawn_new, task_limit}
use Rattle.jl_runner.proofs.known.Known.spawn.Goals as goal

pub invariant_of-self : goal.invariant_of-self
invariant_of-self g c =
    let k = c.self.inside in
    let d = c.spawn.ensures in
    made_knowing g.N.Naming.about c.args.self.now k.pass c.spawn.new.pass k.first k.site c.self.view_is c.args.book.now c.spawn.new.self d.seen c.facts-2.ensures.task
    (λ (made : ℕ × TaskView). Spawn (task_in k.pass) made.0 c.args.start.now) c.spawn.result d.added d.pass d.refused k.keys c.self.invariant

pub returns-clause-grew : goal.returns-clause-grew
returns-clause-grew g c =
    let k = c.self.inside in
    let d = c.spawn.ensures in
    made_grew g.N.Naming.about c.args.self.now k.pass c.spawn.new.pass k.first k.site c.self.view_is c.args.book.now c.spawn.new.self d.seen c.facts-2.ensures.task
    (λ (made : ℕ × TaskView). Spawn (task_in k.pass) made.0 c.args.start.now) c.spawn.result d.added d.pass d.refused

pub returns-clause-refused : goal.returns-clause-refused
returns-clause-refused g c =
    let k = c.self.inside in
    let d = c.spawn.ensures in
    made_refused g.N.Naming.about c.args.self.now k.pass c.spawn.new.pass k.first k.site c.self.view_is c.args.book.now c.spawn.new.self d.seen c.facts-2.ensures.task c.spawn.result d.refused

pub returns-clause-spawned : goal.returns-clause-spawned
returns-clause-spawned g c =
    let k = c.self.inside in
    let d = c.spawn.ensures in
    made_spawned g.N.Naming.about c.args.self.now k.pass c.spawn.new.pass k.first k.site c.self.view_is c.args.book.now c.spawn.new.self d.seen c.facts-2.ensures.task c.args.start.now c.spawn.result d.added d.pass

pub returns-clause-new : goal.returns-clause-new
returns-clause-new g c =
    let k = c.self.inside in
    let d = c.spawn.ensures in
    spawn_new c.spawn.result g.N.Naming.about c.args.self.now.view.seen c.args.book.now c.spawn.new.self (task_in k.pass) c.args.start.now c.facts.ensures.history.stand d.number d.added d.child c.requires.valid c.requires.world
    (subst (λ (u : Knowing). Begins u.view.seen c.args.book.now) c.self.view_is d.seen)

pub returns-clause-limit : goal.returns-clause-limit
returns-clause-limit g c =
    let k = c.self.inside in
    let d = c.spawn.ensures in
    task_limit g.N.Naming.about c.args.self.now k.pass c.spawn.new.pass k.first k.site c.self.view_is c.args.book.now c.spawn.new.self d.seen c.facts-2.ensures.task (c.spawn.result ≡ Err S.TaskLimit)
    (few_tasks g.N.Naming.about.program.value c.args.book.now c.facts.ensures.history.stand) d.full.1
