use Rattle.std.proofs.Common.{ap, refl, arith, ◌+◌}
use Rattle.jl_calculus.specs.declared.history.Change.TheVariants as Ch
use Rattle.jl_calculus.specs.declared.history.Event.TheVariants as Ev
use Rattle.jl_causes.proofs.NoteLemmas.{counts_change, judge_more}
use Rattle.jl_causes.proofs.judge.Judge.note_def.Goals as goal

pub note_def-requires : goal.note_def-requires
note_def-requires c = let (all, es, h, m) = c.requires in (es, h.rows, m)

pub define-requires : goal.define-requires
define-requires c = let (all, es, h, m) = c.requires in (es, h.tasks, m.running.started)

pub returns : goal.returns
returns c = λ all es h m at.
    let e = Ev.Def c.args.task c.args.site in
    judge_more c.args.ready.now all es e c.args.self.now _ refl h (c.in_ok-note_def.ensures es h.rows m (let now = c.newest-old.ensures es h.places in ap (λ n. n + 1) now.world)) (c.in_ok-define.ensures es h.tasks at)
    (c.in_ok-note.ensures es e h.places (counts_change es e (Ch.Def c.args.site) c.newest-old.result _ refl refl refl refl (c.newest-old.ensures es h.places)))

pub overflow_add-world : goal.overflow_add-world
overflow_add-world c =
    let (all, es, h, m) = c.requires in
    let now = c.newest-old.ensures es h.places in
    omega (arith, now.world, m.room)
