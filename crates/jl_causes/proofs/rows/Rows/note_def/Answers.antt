use Rattle.std.proofs.Common.{◌∙◌, ap, arith, sym, refl, ◌+◌}
use Rattle.jl_calculus.specs.declared.history.Change.TheVariants as Ch
use Rattle.jl_calculus.specs.declared.history.Event.TheVariants as Ev
use Rattle.jl_calculus.specs.World.{changes}
use Rattle.jl_calculus.proofs.GrowthLemmas.{changes_length}
use Rattle.jl_causes.proofs.RowLemmas.{on_ok_at, rows_with_other, stands_more}
use Rattle.jl_causes.proofs.rows.Rows.note_def.Goals as goal

pub note_event-noted-requires : goal.note_event-noted-requires
note_event-noted-requires c = let (es, h, m) = c.requires in record { es = es; index = h.indexed; may_come = m }

pub define-requires : goal.define-requires
define-requires c =
    let (es, h, m) = c.requires in
    omega (arith, m.may.1, h.standing.all_made)

pub returns : goal.returns
returns c = λ es h m at.
    let P = c.args.ready.now in
    rows_with_other P es c.args.self.now _ h (Ev.Def c.args.task c.args.site) refl refl (on_ok_at _ c.in_ok-noted.was c.note_event-noted.ensures es h.indexed m) refl refl
    (stands_more P es (Ev.Def c.args.task c.args.site) (Ch.Def c.args.site) c.define.new.self refl (c.in_ok-define.ensures P (changes es) h.standing (at ∙ ap (λ n. n + 1) (sym (changes_length es)))))
