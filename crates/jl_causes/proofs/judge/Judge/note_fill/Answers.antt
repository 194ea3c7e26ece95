use Rattle.std.proofs.Common.{refl}
use Rattle.jl_calculus.specs.declared.history.Event.TheVariants as Ev
use Rattle.jl_causes.proofs.NoteLemmas.{counts_same, tasks_aside, fill_apart, judge_more}
use Rattle.jl_causes.proofs.judge.Judge.note_fill.Goals as goal

pub note_fill-requires : goal.note_fill-requires
note_fill-requires c = let (all, es, h, m) = c.requires in (es, h.rows, m)

pub returns : goal.returns
returns c = λ all es h m.
    let e = Ev.Fill c.args.key c.args.site c.args.first in
    judge_more c.args.ready.now all es e c.args.self.now _ refl h (c.in_ok-note_fill.ensures es h.rows m) (tasks_aside es e _ (fill_apart c.args.key c.args.site c.args.first) h.tasks)
    (c.in_ok-note.ensures es e h.places (counts_same es e _ refl refl (c.newest-counts.ensures es h.places)))
