use Rattle.std.proofs.Common.{◌≡◌, ◌∙◌, ap, sym, subst, refl, arith, [], ◌∷◌, ◌++◌, ◌+◌, length, slice_get, Some}
use Rattle.std.proofs.lemmas.List.{length_push}
use Rattle.std.proofs.lemmas.Option.{slice_get_read}
use Rattle.jl_calculus.specs.declared.history.Event.TheVariants as Ev
use Rattle.jl_causes.specs.Judged.{IsJudged}
use Rattle.jl_causes.proofs.FirstLemmas.{told_so_far, clean_more, cause_at, clean_whole, not_begin, root_unfinished, root_clean}
use Rattle.jl_causes.proofs.first.first_cause.Goals as goal

pub is_finished-requires : goal.is_finished-requires
is_finished-requires c = let h = c.in_ok-judge.ensures 0 in omega (arith, h.many)

pub returns-then-not-is_finished : goal.returns-then-not-is_finished
returns-then-not-is_finished c =
    let P = c.args.ready.now in
    let all = c.args.entries.now in
    root_unfinished P all c.requires.begun (sym (c.is_finished.ensures P all (Ev.Begin 0 ∷ []) (c.in_ok-judge.ensures 0)) ∙ c.if-not-is_finished.true)

pub loop-n-init : goal.loop-n-init
loop-n-init c =
    let P = c.args.ready.now in
    let all = c.args.entries.now in
    let (fuel, clean) = root_clean P all c.requires.begun (sym (c.is_finished.ensures P all (Ev.Begin 0 ∷ []) (c.in_ok-judge.ensures 0)) ∙ c.if-not-is_finished.false) in (Ev.Begin fuel ∷ [], clean, c.in_ok-judge.ensures fuel, refl)

pub find_cause-requires : goal.find_cause-requires
find_cause-requires c = let (es, clean, h, many) = c.loop-n.invariant in (es, h)

pub returns-in-Some : goal.returns-in-Some
returns-in-Some c =
    let P = c.args.ready.now in
    let all = c.args.entries.now in
    let n = c.loop-n.n in
    let entry = c.index-entries-n.result in
    let (es, clean, h, many) = c.loop-n.invariant in
    let at : slice_get all n ≡ Some entry = slice_get_read all (length all) n entry refl (omega (arith, c.loop-n-test.true)) c.index-entries-n.is in
    let judged = c.in_ok-cause.ensures es h (told_so_far P all n es clean many) (not_begin all n entry c.requires.begun (omega (arith, c.loop-n.auto.n)) at) c.in_ok-key.ensures in
    cause_at P all n es entry c.in-Some.cause clean at (subst (IsJudged P all es entry) c.in-Some.is judged)

pub note-requires : goal.note-requires
note-requires c =
    let P = c.args.ready.now in
    let all = c.args.entries.now in
    let n = c.loop-n.n in
    let entry = c.index-entries-n.result in
    let (es, clean, h, many) = c.loop-n.invariant in
    let at : slice_get all n ≡ Some entry = slice_get_read all (length all) n entry refl (omega (arith, c.loop-n-test.true)) c.index-entries-n.is in
    let later = not_begin all n entry c.requires.begun (omega (arith, c.loop-n.auto.n)) at in
    let judged = c.in_ok-cause.ensures es h (told_so_far P all n es clean many) later c.in_ok-key.ensures in
    (all, es, record { knows = h; clean = subst (IsJudged P all es entry) c.in_default.is judged; named = c.in_ok-key.ensures; later = later })

pub loop-n-preserved : goal.loop-n-preserved
loop-n-preserved c =
    let P = c.args.ready.now in
    let all = c.args.entries.now in
    let n = c.loop-n.n in
    let entry = c.index-entries-n.result in
    let (es, clean, h, many) = c.loop-n.invariant in
    let at : slice_get all n ≡ Some entry = slice_get_read all (length all) n entry refl (omega (arith, c.loop-n-test.true)) c.index-entries-n.is in
    let later = not_begin all n entry c.requires.begun (omega (arith, c.loop-n.auto.n)) at in
    let judged = c.in_ok-cause.ensures es h (told_so_far P all n es clean many) later c.in_ok-key.ensures in
    let free = subst (IsJudged P all es entry) c.in_default.is judged in
    let (e, tells, next) = c.in_ok-note.ensures all es (record { knows = h; clean = free; named = c.in_ok-key.ensures; later = later }) (sym many) in
    (es ++ e ∷ [], clean_more P all n es entry e clean many at free tells, next, length_push es e ∙ ap (λ k. k + 1) many)

pub returns : goal.returns
returns c =
    let (es, clean, h, many) = c.loop-n.invariant in
    clean_whole c.args.ready.now c.args.entries.now c.loop-n.n es clean (omega (arith, c.loop-n-test.false))
