use Rattle.std.proofs.Common.{refl}
use Rattle.jl_causes.proofs.RowLemmas.{on_ok_at, rows_with_fill}
use Rattle.jl_causes.proofs.rows.Rows.note_fill.Goals as goal

pub note_event-noted-requires : goal.note_event-noted-requires
note_event-noted-requires c = let (es, h, m) = c.requires in record { es = es; index = h.indexed; may_come = m }

pub returns : goal.returns
returns c = λ es h m.
    rows_with_fill c.args.ready.now es c.args.self.now _ h c.args.key c.args.site c.args.first (on_ok_at _ c.in_ok-noted.was c.note_event-noted.ensures es h.indexed m) refl c.in_ok-push.ensures.items refl
