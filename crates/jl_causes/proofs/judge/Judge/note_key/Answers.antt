use Rattle.std.proofs.Common.{refl}
use Rattle.jl_calculus.specs.declared.history.Event.TheVariants as Ev
use Rattle.jl_causes.proofs.NoteLemmas.{counts_same, tasks_aside, key_apart, judge_more}
use Rattle.jl_causes.proofs.judge.Judge.note_key.Goals as goal

pub note_key-requires : goal.note_key-requires
note_key-requires c = let (all, es, h, m) = c.requires in (es, h.rows, m)

pub returns : goal.returns
returns c = λ all es h m.
    let e = Ev.Key c.args.key in
    judge_more c.args.ready.now all es e c.args.self.now _ refl h (c.in_ok-note_key.ensures es h.rows m) (tasks_aside es e _ (key_apart c.args.key) h.tasks)
    (c.in_ok-note.ensures es e h.places (counts_same es e _ refl refl (c.newest-counts.ensures es h.places)))
