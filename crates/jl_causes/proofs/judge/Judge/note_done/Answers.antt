use Rattle.std.proofs.Common.{refl}
use Rattle.jl_calculus.specs.declared.history.Event.TheVariants as Ev
use Rattle.jl_causes.proofs.NoteLemmas.{counts_same, rows_aside, judge_more}
use Rattle.jl_causes.proofs.judge.Judge.note_done.Goals as goal

pub end-requires : goal.end-requires
end-requires c = let (all, es, ended, h, m) = c.requires in (es, h.tasks, m.started)

pub returns : goal.returns
returns c = λ all es ended h m at.
    let P = c.args.ready.now in
    let e = Ev.Done c.args.task ended in
    judge_more P all es e c.args.self.now _ refl h (rows_aside P es e c.args.self.now.rows refl refl refl h.rows) (c.end.ensures es ended h.tasks at m)
    (c.in_ok-note.ensures es e h.places (counts_same es e _ refl refl (c.newest-counts.ensures es h.places)))
