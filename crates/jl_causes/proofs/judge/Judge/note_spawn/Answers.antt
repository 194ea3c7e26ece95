use Rattle.std.proofs.Common.{refl, arith}
use Rattle.jl_calculus.specs.declared.history.Event.TheVariants as Ev
use Rattle.jl_causes.proofs.NoteLemmas.{counts_spawn, rows_aside, judge_more}
use Rattle.jl_causes.proofs.judge.Judge.note_spawn.Goals as goal

pub spawn-requires : goal.spawn-requires
spawn-requires c = let (all, es, start, h, m) = c.requires in (es, h.tasks, m.running.started)

pub returns : goal.returns
returns c = λ all es start h m at.
    let P = c.args.ready.now in
    let e = Ev.Spawn c.args.task c.args.child start in
    judge_more P all es e c.args.self.now _ refl h (rows_aside P es e c.args.self.now.rows refl refl refl h.rows) (c.in_ok-spawn.ensures es start h.tasks at m.next)
    (c.in_ok-note.ensures es e h.places (counts_spawn es c.args.task c.args.child start c.newest-old.result _ refl refl (c.newest-old.ensures es h.places)))

pub overflow_add-old : goal.overflow_add-old
overflow_add-old c =
    let (all, es, start, h, m) = c.requires in
    let now = c.newest-old.ensures es h.places in
    omega (arith, now.tasks, m.room)
