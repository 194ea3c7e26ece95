use Rattle.std.proofs.Common.{arith, refl}
use Rattle.jl_calculus.specs.declared.history.Event.TheVariants as Ev
use Rattle.jl_calculus.specs.Past.{tasks_of}
use Rattle.jl_lead.proofs.Whole.{placed_on, placed_same, placed_more, left_same, spawn_full, spawn_lost, spawn_made}
use Rattle.jl_lead.proofs.led.Led.make_task.Goals as goal

pub invariant_of-self : goal.invariant_of-self
invariant_of-self c =
    let s = c.args.self.now in
    record { placed = placed_on s.past.1 s.task s.seen c.len-self.result s.placed (let e = c.len-self.ensures in omega (arith, e)); left = λ l. c.len-self.ensures }

pub returns-then-child-ge-MOST_TASKS : goal.returns-then-child-ge-MOST_TASKS
returns-then-child-ge-MOST_TASKS c =
    let s = c.args.self.now in
    spawn_full s.past.0 s.past.1 s.task s.items.items s.told s.seen s.looks s.alone c.args.start c.len-self.result c.requires.next s.left s.placed.seen_some c.len-self.ensures
    (let e = c.tasks-child.ensures.exact in let m = c.tasks-child.ensures.most in omega (arith, c.if-child-ge-MOST_TASKS.true, e, m))

pub returns-then-self : goal.returns-then-self
returns-then-self c =
    let s = c.args.self.now in
    spawn_lost s.past.0 s.past.1 s.task s.items.items s.told s.seen s.looks s.alone c.args.start s.past refl (let e = c.tasks-child.ensures.exact in omega (arith, c.if-child-ge-MOST_TASKS.false, e))

pub spawn-requires-clause-room : goal.spawn-requires-clause-room
spawn-requires-clause-room c =
    (let e = c.tasks-child.ensures.exact in omega (arith, c.if-child-ge-MOST_TASKS.false, e))

pub invariant_of-self-in-Ok : goal.invariant_of-self-in-Ok
invariant_of-self-in-Ok c =
    let s = c.args.self.now in
    record {
      placed = placed_more s.past.0 s.past.1 (Ev.Spawn s.task (tasks_of s.past.1) c.args.start) s.task s.seen c.len-self-in-Ok.result c.spawn.new.self s.placed c.in-Ok.ensures.added c.len-self-in-Ok.ensures;
      left = λ l. c.len-self-in-Ok.ensures;
    }

pub returns-in-Ok : goal.returns-in-Ok
returns-in-Ok c =
    let s = c.args.self.now in
    spawn_made s.past.0 s.past.1 s.task s.items.items s.told s.seen s.looks s.alone c.args.start c.tasks-child.result c.len-self-in-Ok.result c.spawn.new.self s.placed.started c.if-self.false c.requires.next s.left s.placed.seen_some
    (let e = c.tasks-child.ensures.exact in omega (arith, c.if-child-ge-MOST_TASKS.false, e)) c.in-Ok.ensures.added c.len-self-in-Ok.ensures c.tasks-child.ensures.exact

pub invariant_of-self-in-Err : goal.invariant_of-self-in-Err
invariant_of-self-in-Err c =
    let s = c.args.self.now in
    record {
      placed = placed_same c.spawn.new.self s.past s.task s.seen c.in-Err.ensures.refused s.placed;
      left = left_same c.spawn.new.self s.past s.alone s.seen _ c.in-Err.ensures.refused s.left;
    }

pub returns-in-Err : goal.returns-in-Err
returns-in-Err c =
    let s = c.args.self.now in
    spawn_lost s.past.0 s.past.1 s.task s.items.items s.told s.seen s.looks s.alone c.args.start c.spawn.new.self c.in-Err.ensures.refused (let e = c.tasks-child.ensures.exact in omega (arith, c.if-child-ge-MOST_TASKS.false, e))
