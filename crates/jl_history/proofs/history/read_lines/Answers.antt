use Rattle.std.proofs.Common.{◌≡◌, ◌∙◌, subst, sym, arith}
use Rattle.jl_report.specs.HistoryText.{entries_text}
use Rattle.jl_history.specs.Form.{AreEntries}
use Rattle.jl_history.proofs.CutLemmas.{cut_shorter}
use Rattle.jl_history.proofs.WholeLemmas.{IsReached, reached_first, reached_more, reached_few, bad_line, bad_end, good_end, moved, stayed}
use Rattle.jl_history.proofs.history.read_lines.Goals as goal

pub loop-line-init : goal.loop-line-init
loop-line-init c = subst (IsReached c.args.places c.args.text.now c.args.text.now 1) (sym c.new-reader.ensures) (reached_first c.args.places c.args.text.now)

pub returns-then-not-taken : goal.returns-then-not-taken
returns-then-not-taken c =
    bad_line c.args.places c.args.text.now c.loop-line.rest.now c.in-Some.line.now c.in-Some.after.now c.loop-line.number c.loop-line.reader (omega (arith, c.requires)) c.loop-line.invariant c.in-Some.ensures
    (stayed c.in_ok-taken.taken c.take.new.self _ c.in_ok-taken.ensures c.if-not-taken.true)

pub overflow_add-number : goal.overflow_add-number
overflow_add-number c = record { fits = omega (arith, c.requires, reached_few c.args.places c.args.text.now c.loop-line.rest.now c.loop-line.number c.loop-line.reader c.loop-line.invariant) }

pub loop-line-smaller : goal.loop-line-smaller
loop-line-smaller c = cut_shorter 10 c.loop-line.rest.now c.in-Some.line.now c.in-Some.after.now c.in-Some.ensures

pub loop-line-preserved : goal.loop-line-preserved
loop-line-preserved c =
    reached_more c.args.places c.args.text.now c.loop-line.rest.now c.in-Some.line.now c.in-Some.after.now c.loop-line.number c.loop-line.reader c.take.new.self c.loop-line.invariant c.in-Some.ensures
    (moved c.in_ok-taken.taken c.take.new.self _ c.in_ok-taken.ensures c.if-not-taken.false)

pub returns-then-not-finished : goal.returns-then-not-finished
returns-then-not-finished c =
    bad_end c.args.places c.args.text.now c.loop-line.rest.now c.loop-line.number c.loop-line.reader (omega (arith, c.requires)) c.loop-line.invariant c.in_default.ensures
    (sym c.is_finished-finished.ensures ∙ c.if-not-finished.true)

pub returns : goal.returns
returns c =
    let whole = good_end c.args.places c.args.text.now c.loop-line.rest.now c.loop-line.number c.loop-line.reader (omega (arith, c.requires)) c.loop-line.invariant (sym c.is_finished-finished.ensures ∙ c.if-not-finished.false) in
    subst (λ z. AreEntries c.args.places z × (c.args.text.now ≡ entries_text c.args.places z)) (sym c.in_ok-into_entries.ensures) whole
