use Rattle.std.proofs.Common.{◌∙◌, ap, sym, subst, arith, Ok, Err}
use Rattle.jl_report.specs.HistoryText.{entries_of, entries_text, has_places}
use Rattle.jl_history.specs.declared.fault.HistoryFault.{HistoryFault}
use Rattle.jl_history.specs.Form.{AreEntries, IsFirstBad, Tells, UnlessMemory}
use Rattle.jl_replay.specs.Verdict.{AreJudgedSo}
use Rattle.jl_replay.proofs.Judgements.{verdict_is, bad_is, one_list, not_bad, legal_judged}
use Rattle.jl_replay.proofs.top.judge_text.Goals as goal

pub judge-verdict-requires : goal.judge-verdict-requires
judge-verdict-requires g c =
    let version = c.has_places-places.ensures ∙ ap has_places c.program.ensures in
    record { form = subst (AreEntries (has_places c.args.ready.now)) (sym c.as_slice.ensures) (subst (λ b. AreEntries b c.in-Ok.entries) version c.in-Ok.ensures.tells.0) }

pub returns-in_ok-verdict-in-Ok-clause-verdict : goal.returns-in_ok-verdict-in-Ok-clause-verdict
returns-in_ok-verdict-in-Ok-clause-verdict g c =
    let version = c.has_places-places.ensures ∙ ap has_places c.program.ensures in
    verdict_is c.args.ready.now c.args.text.now c.in-Ok.entries (subst (λ b. AreEntries b c.in-Ok.entries) version c.in-Ok.ensures.tells.0) (c.in-Ok.ensures.tells.1 ∙ ap (λ b. entries_text b c.in-Ok.entries) version)
    c.requires.read c.in_ok-verdict-in-Ok.verdict
    (subst (λ xs. AreJudgedSo c.args.ready.now xs c.in_ok-verdict-in-Ok.verdict) c.as_slice.ensures c.in_ok-verdict-in-Ok.ensures)

pub returns-in_ok-verdict-in-Ok-clause-legal : goal.returns-in_ok-verdict-in-Ok-clause-legal
returns-in_ok-verdict-in-Ok-clause-legal g c es legal is =
    let P = c.args.ready.now in
    let version = c.has_places-places.ensures ∙ ap has_places c.program.ensures in
    legal_judged P c.in-Ok.entries es c.in_ok-verdict-in-Ok.verdict legal
    (one_list c.in-Ok.entries (entries_of P es) (c.in-Ok.ensures.reads (entries_of P es) (subst (λ b. AreEntries b (entries_of P es)) (sym version) (c.requires.read es legal is)) (is ∙ ap (λ b. entries_text b (entries_of P es)) (sym version))))
    (subst (λ xs. AreJudgedSo P xs c.in_ok-verdict-in-Ok.verdict) c.as_slice.ensures c.in_ok-verdict-in-Ok.ensures)

pub returns-in-Err-BadText-clause-verdict : goal.returns-in-Err-BadText-clause-verdict
returns-in-Err-BadText-clause-verdict g c =
    let version = c.has_places-places.ensures ∙ ap has_places c.program.ensures in
    bad_is c.args.ready.now c.args.text.now c.in-Err-BadText.line _ (omega (arith, c.in-Err-BadText.line-is)) c.requires.read
    (subst (λ b. IsFirstBad b c.in-Err-BadText.line c.args.text.now) version
    (subst (λ (f : HistoryFault). Tells c.has_places-places.result c.args.text.now (Err f)) c.in-Err-BadText.field-0-is c.in-Err-BadText.ensures.tells))

pub returns-in-Err-BadText-clause-legal : goal.returns-in-Err-BadText-clause-legal
returns-in-Err-BadText-clause-legal g c es legal is =
    let P = c.args.ready.now in
    let version = c.has_places-places.ensures ∙ ap has_places c.program.ensures in
    absurd
    (not_bad c.in-Err-BadText.line (entries_of P es)
    (subst (λ (f : HistoryFault). UnlessMemory (Err f) (Ok (entries_of P es))) c.in-Err-BadText.field-0-is
    (c.in-Err-BadText.ensures.reads (entries_of P es) (subst (λ b. AreEntries b (entries_of P es)) (sym version) (c.requires.read es legal is)) (is ∙ ap (λ b. entries_text b (entries_of P es)) (sym version)))))
