use Rattle.std.proofs.Common.{refl, arith}
use Rattle.jl_causes.proofs.RowLemmas.{on_ok_at, rows_with_key}
use Rattle.jl_causes.proofs.rows.Rows.note_key.Goals as goal

pub note_event-noted-requires : goal.note_event-noted-requires
note_event-noted-requires c = let (es, h, m) = c.requires in record { es = es; index = h.indexed; may_come = m }

pub returns : goal.returns
returns c = λ es h m.
    rows_with_key c.args.ready.now es c.args.self.now _ h c.args.key (on_ok_at _ c.in_ok-noted.was c.note_event-noted.ensures es h.indexed m) refl refl refl

pub overflow_add-self : goal.overflow_add-self
overflow_add-self c =
    let (es, h, m) = c.requires in
    omega (arith, h.counted, m.room)
