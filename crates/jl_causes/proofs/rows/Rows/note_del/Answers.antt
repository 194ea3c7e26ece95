use Rattle.std.proofs.Common.{◌∙◌, ap, sym, refl, ◌+◌}
use Rattle.jl_calculus.specs.declared.history.Change.TheVariants as Ch
use Rattle.jl_calculus.specs.declared.history.Event.TheVariants as Ev
use Rattle.jl_calculus.specs.World.{changes}
use Rattle.jl_calculus.proofs.GrowthLemmas.{changes_length}
use Rattle.jl_causes.proofs.RowLemmas.{on_ok_at, rows_with_other, stands_more}
use Rattle.jl_causes.proofs.StoodLemmas.{place_found}
use Rattle.jl_causes.proofs.rows.Rows.note_del.Goals as goal

pub note_event-noted-requires : goal.note_event-noted-requires
note_event-noted-requires c = let (es, h, m) = c.requires in record { es = es; index = h.indexed; may_come = m }

pub delete-requires : goal.delete-requires
delete-requires c =
    let P = c.args.ready.now in
    let (es, h, m) = c.requires in (changes es, h.standing, place_found P es c.args.place m.may)

pub returns : goal.returns
returns c = λ es h m at.
    let P = c.args.ready.now in
    rows_with_other P es c.args.self.now _ h (Ev.Del c.args.task c.args.place) refl refl (on_ok_at _ c.in_ok-noted.was c.note_event-noted.ensures es h.indexed m) refl refl
    (stands_more P es (Ev.Del c.args.task c.args.place) (Ch.Del c.args.place) c.delete.new.self refl
    (c.in_ok-delete.ensures (changes es) h.standing (at ∙ ap (λ n. n + 1) (sym (changes_length es)))))
